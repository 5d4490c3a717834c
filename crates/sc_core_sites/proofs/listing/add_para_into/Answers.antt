use Rattle.std.proofs.Common.{◌∙◌, subst, map, rules}
use Rattle.sc_core_rules.specs.Paramodulation.{AreParaIntoSites}
use Rattle.sc_core_rules.specs.Sites.{ParaInto}
use Rattle.sc_core_sites.specs.Sites.{site_of}
use Rattle.sc_core_sites.proofs.MovingLaws.{told_behind, room_so}
use Rattle.sc_core_sites.proofs.JoiningLaws.{set, unset, para_into_added, para_into_off}
use Rattle.sc_core_sites.proofs.listing.add_para_into.Goals as goal

pub returns-then-not-flags : goal.returns-then-not-flags
returns-then-not-flags c = para_into_off c.args.flags c.args.given.now c.args.usable.now c.args.limit (unset c.args.flags.para_into c.if-not-flags.true) (map site_of c.args.sites.now)

pub returns : goal.returns
returns c =
    let found = subst (λ n. AreParaIntoSites c.args.given.now c.args.usable.now n c.in_ok-found.found) (c.room.ensures ∙ room_so c.args.limit c.args.sites.now) c.in_ok-found.ensures in
    para_into_added c.args.flags c.args.given.now c.args.usable.now c.args.limit (set c.args.flags.para_into c.if-not-flags.false) (map site_of c.args.sites.now) (map site_of c.append.new.self) c.in_ok-found.found found
    (told_behind _ (λ s. ParaInto s) c.args.sites.now c.append.new.self c.in_ok-more.more c.in_ok-found.found (λ s x h. search rules) c.in_ok-more.ensures c.in_ok-append.ensures)
