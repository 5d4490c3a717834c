use Rattle.std.proofs.Common.{◌≡◌, map, take}
use Rattle.sc_term.specs.Occurrence.{shift_by}
use Rattle.sc_term.specs.Substitution.{literal_under}
use Rattle.sc_term.proofs.renaming.shift_literals.Given as goal

abbrev pub invariant-loop-literal : goal.invariant-loop-literal
invariant-loop-literal l = l.made ≡ map (literal_under (shift_by l.by)) (take l.literal-index l.literals)
