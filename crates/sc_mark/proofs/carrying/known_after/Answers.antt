use Rattle.std.proofs.Common.{◌≡◌, ◌∙◌, sym, subst, arith}
use Rattle.sc_mark.specs.declared.known.Known.{Known}
use Rattle.sc_mark.specs.declared.known.Known.TheVariants.{False}
use Rattle.sc_mark.specs.Known.{IsKnown}
use Rattle.sc_mark.proofs.KnownLaws.{below_all}
use Rattle.sc_mark.proofs.AlikeLaws.{stays_known}
use Rattle.sc_mark.proofs.carrying.known_after.Goals as goal

pub returns-then-not-clause_changed-clause-known : goal.returns-then-not-clause_changed-clause-known
returns-then-not-clause_changed-clause-known c =
    let same : c.args.old.now.size ≡ c.args.new.now.size = omega (arith, c.size.ensures.value, c.size-2.ensures.value, c.if-size.false) in
    stays_known c.args.old.now c.args.new.now c.args.changes.now c.args.c.now c.args.before same c.requires.changes
    (sym c.clause_changed.ensures ∙ c.if-not-clause_changed.true) c.requires.before

pub false_after-requires-clause-there : goal.false_after-requires-clause-there
false_after-requires-clause-there c =
    let same : c.args.old.now.size ≡ c.args.new.now.size = omega (arith, c.size.ensures.value, c.size-2.ensures.value, c.if-size.false) in
    let before : IsKnown c.args.old.now c.args.c.now (False c.in-False.number) = subst (λ (k : Known). IsKnown c.args.old.now c.args.c.now k) c.in-False.is c.requires.before in
    below_all c.args.old.now c.args.new.now c.args.c.now c.in-False.number same before.1
