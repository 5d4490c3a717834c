use Rattle.std.proofs.Common.{◌∙◌, subst, map, rules}
use Rattle.sc_core_rules.specs.Hyperresolution.{AreHyperSites}
use Rattle.sc_core_rules.specs.Sites.{Hyper}
use Rattle.sc_core_sites.specs.Sites.{site_of}
use Rattle.sc_core_sites.proofs.MovingLaws.{told_behind, room_so}
use Rattle.sc_core_sites.proofs.JoiningLaws.{set, unset, hyper_added, hyper_off}
use Rattle.sc_core_sites.proofs.listing.add_hyper.Goals as goal

pub returns-then-not-flags : goal.returns-then-not-flags
returns-then-not-flags c = hyper_off c.args.flags c.args.given.now c.args.usable.now c.args.limit (unset c.args.flags.hyper_res c.if-not-flags.true) (map site_of c.args.sites.now)

pub returns : goal.returns
returns c =
    let found = subst (λ n. AreHyperSites c.args.given.now c.args.usable.now n c.in_ok-found.found) (c.room.ensures ∙ room_so c.args.limit c.args.sites.now) c.in_ok-found.ensures in
    hyper_added c.args.flags c.args.given.now c.args.usable.now c.args.limit (set c.args.flags.hyper_res c.if-not-flags.false) (map site_of c.args.sites.now) (map site_of c.append.new.self) c.in_ok-found.found found
    (told_behind _ (λ s. Hyper s) c.args.sites.now c.append.new.self c.in_ok-more.more c.in_ok-found.found (λ s x h. search rules) c.in_ok-more.ensures c.in_ok-append.ensures)
