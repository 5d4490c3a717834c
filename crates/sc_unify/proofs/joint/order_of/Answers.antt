use Rattle.std.proofs.Common.{◌≡◌, ◌∙◌, sym, ap, []}
use Rattle.sc_term.specs.Clause.{variables}
use Rattle.sc_term.specs.Substitution.{clause_under}
use Rattle.sc_term.specs.Occurrence.{noted}
use Rattle.sc_unify.specs.Bindings.{bindings, finished}
use Rattle.sc_unify.proofs.JointRows.{noted-next}
use Rattle.sc_unify.proofs.joint.order_of.Goals as goal

pub loop-c-preserved : goal.loop-c-preserved
loop-c-preserved c =
    noted-next (clause_under (finished (bindings c.args.bound.now))) c.args.clauses.now c.loop-c.c-index c.c-item.result [] c.loop-c.order.items c.note_variables.new.order.items
    c.loop-c-test.true c.c-item.is c.loop-c.invariant (c.in_ok-note_variables.ensures ∙ ap (λ d. noted c.loop-c.order.items (variables d)) c.in_ok-made.ensures)
