use Rattle.std.proofs.Common.{◌≡◌, map, take}
use Rattle.sc_term.specs.Term.{term_under}
use Rattle.sc_term.specs.JointInstance.{renumbering}
use Rattle.sc_term.proofs.first_occurrence.+numbering.Given as goal

abbrev pub invariant-renumber_terms-loop-term : goal.invariant-renumber_terms-loop-term
invariant-renumber_terms-loop-term l = l.made ≡ map (term_under (renumbering l.order)) (take l.term-index l.terms)
