use Rattle.std.proofs.Common.{◌≡◌, map, take}
use Rattle.sc_term.specs.Term.{joined}
use Rattle.sc_term.specs.Occurrence.{noted, literal_variables}
use Rattle.sc_term.proofs.first_occurrence.note_variables.Given as goal

abbrev pub invariant-loop-literal : goal.invariant-loop-literal
invariant-loop-literal l = l.order.items ≡ noted l.initial.order.items (joined (map literal_variables (take l.literal-index l.literal-items)))
