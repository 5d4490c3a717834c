use Rattle.std.proofs.Common.{◌≡◌, map, take}
use Rattle.sc_term.specs.Substitution.{literal_under}
use Rattle.sc_term.specs.JointInstance.{renumbering}
use Rattle.sc_term.proofs.first_occurrence.renumber_literals.Given as goal

abbrev pub invariant-loop-literal : goal.invariant-loop-literal
invariant-loop-literal l = l.made ≡ map (literal_under (renumbering l.order)) (take l.literal-index l.literals)
