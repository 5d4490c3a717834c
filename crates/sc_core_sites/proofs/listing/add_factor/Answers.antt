use Rattle.std.proofs.Common.{◌∙◌, subst, map, rules}
use Rattle.sc_core_rules.specs.Resolution.{AreFactorSites}
use Rattle.sc_core_rules.specs.Sites.{Factor}
use Rattle.sc_core_sites.specs.Sites.{site_of}
use Rattle.sc_core_sites.proofs.MovingLaws.{told_behind, room_so}
use Rattle.sc_core_sites.proofs.JoiningLaws.{set, unset, factor_added, factor_off}
use Rattle.sc_core_sites.proofs.listing.add_factor.Goals as goal

pub returns-then-not-flags : goal.returns-then-not-flags
returns-then-not-flags c = λ usable. factor_off c.args.flags c.args.given.now usable c.args.limit (unset c.args.flags.factor c.if-not-flags.true) (map site_of c.args.sites.now)

pub returns : goal.returns
returns c = λ usable.
    let found = subst (λ n. AreFactorSites c.args.given.now n c.in_ok-found.found) (c.room.ensures ∙ room_so c.args.limit c.args.sites.now) c.in_ok-found.ensures in
    factor_added c.args.flags c.args.given.now usable c.args.limit (set c.args.flags.factor c.if-not-flags.false) (map site_of c.args.sites.now) (map site_of c.append.new.self) c.in_ok-found.found found
    (told_behind _ (λ s. Factor s) c.args.sites.now c.append.new.self c.in_ok-more.more c.in_ok-found.found (λ s x h. search rules) c.in_ok-more.ensures c.in_ok-append.ensures)
