use Rattle.std.proofs.Common.{◌↔◌}
use Rattle.sc_term.specs.Substitution.{Substitution}
use Rattle.sc_unify.specs.Bindings.{bindings, Respects}
use Rattle.sc_unify.specs.Equations.{equations, Solves, left_cost}
use Rattle.sc_unify.proofs.solve.advance.Given as goal

abbrev pub invariant-loop-equation : goal.invariant-loop-equation
invariant-loop-equation l = (u : Substitution) → Respects u (bindings l.bound) → Solves u (equations l.initial.todo.items) ↔ Solves u (equations l.todo.items)

abbrev pub decreases-loop-equation : goal.decreases-loop-equation
decreases-loop-equation l = left_cost (bindings l.bound) (equations l.todo.items)
