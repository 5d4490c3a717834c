use Rattle.std.proofs.Common.{◌≡◌, ◌++◌, take}
use Rattle.sc_unify.specs.Equations.{equations, equated}
use Rattle.sc_unify.proofs.equation.equate.Given as goal

abbrev pub invariant-loop-i : goal.invariant-loop-i
invariant-loop-i l = equations l.todo.items ≡ equations l.initial.todo.items ++ equated (take l.i l.left) (take l.i l.right)
