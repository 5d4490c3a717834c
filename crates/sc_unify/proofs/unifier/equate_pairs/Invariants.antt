use Rattle.std.proofs.Common.{◌↔◌, take}
use Rattle.sc_term.specs.Substitution.{Substitution, IsUnifier}
use Rattle.sc_unify.specs.Equations.{equations}
use Rattle.sc_unify.specs.Unifiers.{EquatesPairs}
use Rattle.sc_unify.proofs.unifier.equate_pairs.Given as goal

abbrev pub invariant-loop-pair : goal.invariant-loop-pair
invariant-loop-pair l = EquatesPairs (take l.pair-index l.pairs) (equations l.todo.items)
