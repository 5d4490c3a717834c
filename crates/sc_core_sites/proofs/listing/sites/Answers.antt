use Rattle.std.proofs.Common.{subst, map}
use Rattle.sc_resolve.specs.Extending.{Extends}
use Rattle.sc_core_rules.specs.Sites.{site_numbers}
use Rattle.sc_core_sites.specs.Sites.{site_of}
use Rattle.sc_core_sites.specs.ByRule.{IsByRule}
use Rattle.sc_core_sites.proofs.JoiningLaws.{joined}
use Rattle.sc_core_sites.proofs.listing.sites.Goals as goal

pub returns : goal.returns
returns c =
    let first = subst (λ l. Extends site_numbers (IsByRule c.args.flags c.args.given.now c.args.usable.now 0) c.args.limit (map site_of l) (map site_of c.add_binary.new.sites)) c.new-sites.ensures c.in_ok-add_binary.ensures in
    joined c.args.flags c.args.given.now c.args.usable.now c.args.limit
    (map site_of c.add_binary.new.sites) (map site_of c.add_factor.new.sites) (map site_of c.add_hyper.new.sites) (map site_of c.add_ur.new.sites)
    (map site_of c.add_para_from.new.sites) (map site_of c.add_para_into.new.sites)
    first (c.in_ok-add_factor.ensures c.args.usable.now) c.in_ok-add_hyper.ensures c.in_ok-add_ur.ensures c.in_ok-add_para_from.ensures c.in_ok-add_para_into.ensures
