use Rattle.std.proofs.Common.{◌≡◌, map, take}
use Rattle.sc_term.specs.Term.{joined, term_variables}
use Rattle.sc_term.specs.Occurrence.{noted}
use Rattle.sc_term.proofs.first_occurrence.+noting.Given as goal

abbrev pub invariant-note_terms-loop-term : goal.invariant-note_terms-loop-term
invariant-note_terms-loop-term l = l.order.items ≡ noted l.initial.order.items (joined (map term_variables (take l.term-index l.terms)))
