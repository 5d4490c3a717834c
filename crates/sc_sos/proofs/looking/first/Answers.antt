use Rattle.std.proofs.Common.{subst, List, take, get_or}
use Rattle.std.proofs.lemmas.List.{take_all}
use Rattle.sc_core_rules.specs.Order.{IsLeast}
use Rattle.sc_sos.specs.declared.sos.Weighed.{Weighed}
use Rattle.sc_sos.specs.Waiting.{IsAny}
use Rattle.sc_sos.specs.LookUp.{numbers_by, IsFirst}
use Rattle.sc_sos.proofs.LookingLaws.{one_more, blank, one_further}
use Rattle.sc_sos.proofs.looking.first.Goals as goal

pub loop-w-preserved : goal.loop-w-preserved
loop-w-preserved c =
    subst (λ (ws : List Weighed). IsLeast (numbers_by c.args.order) IsAny ws c.sooner.result)
    (one_further c.args.clauses.now c.loop-w.w-index c.loop-w-test.true)
    (one_more (numbers_by c.args.order) IsAny (take c.loop-w.w-index c.args.clauses.now) (get_or c.args.clauses.now c.loop-w.w-index blank) c.loop-w.best c.sooner.result
    tt c.sooner.ensures c.loop-w.invariant)

pub returns : goal.returns
returns c =
    subst (λ (ws : List Weighed). IsFirst (numbers_by c.args.order) IsAny ws c.loop-w.best)
    (take_all c.loop-w.w-index c.args.clauses.now c.loop-w-test.false) c.loop-w.invariant
