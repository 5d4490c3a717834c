use Rattle.std.proofs.Common.{subst, List, take}
use Rattle.std.proofs.lemmas.List.{take_all}
use Rattle.sc_sos.specs.declared.sos.Weighed.{Weighed}
use Rattle.sc_sos.specs.Waiting.{weight_of, IsFalseIn}
use Rattle.sc_sos.specs.LookUp.{IsFirst}
use Rattle.sc_sos.proofs.LookingLaws.{one_further}
use Rattle.sc_sos.proofs.looking.first_false.Goals as goal

pub loop-w-preserved : goal.loop-w-preserved
loop-w-preserved c =
    subst (λ (ws : List Weighed). IsFirst weight_of (IsFalseIn c.args.marks.now) ws c.lightest_so_far-best.result)
    (one_further c.args.clauses.now c.loop-w.w-index c.loop-w-test.true)
    (c.lightest_so_far-best.ensures (take c.loop-w.w-index c.args.clauses.now) c.loop-w.invariant)

pub returns : goal.returns
returns c =
    subst (λ (ws : List Weighed). IsFirst weight_of (IsFalseIn c.args.marks.now) ws c.loop-w.best)
    (take_all c.loop-w.w-index c.args.clauses.now c.loop-w-test.false) c.loop-w.invariant
