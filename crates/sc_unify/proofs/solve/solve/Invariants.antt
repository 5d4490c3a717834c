use Rattle.std.proofs.Common.{◌↔◌, ◌^◌}
use Rattle.sc_term.specs.Substitution.{Substitution}
use Rattle.sc_unify.specs.Bindings.{bindings, AreSolved, Respects}
use Rattle.sc_unify.specs.Equations.{equations, Solves}
use Rattle.sc_unify.proofs.Unbound.{unbound}
use Rattle.sc_unify.proofs.solve.solve.Given as goal

abbrev pub invariant-loop-bound : goal.invariant-loop-bound
invariant-loop-bound l = record {
  solved : AreSolved (bindings l.bound.items);
  same : (u : Substitution) → Solves u (equations l.fn.todo.items) ↔ (Solves u (equations l.todo.items) × Respects u (bindings l.bound.items));
}

abbrev pub decreases-loop-bound : goal.decreases-loop-bound
decreases-loop-bound l = unbound (2 ^ 32) (bindings l.bound.items)
