use Rattle.std.proofs.Common.{◌≡◌, ◌*◌, ◌+◌, map, take}
use Rattle.sc_term.specs.Occurrence.{shift_by}
use Rattle.sc_term.specs.Term.{term_under, term_depth, largest}
use Rattle.sc_term.proofs.renaming.+shifting.Given as goal

abbrev pub decreases-shift_term : goal.decreases-shift_term
decreases-shift_term l = 2 * term_depth l.t.now

abbrev pub decreases-shift_terms : goal.decreases-shift_terms
decreases-shift_terms l = 2 * largest (map term_depth l.terms.now) + 1

abbrev pub invariant-shift_terms-loop-term : goal.invariant-shift_terms-loop-term
invariant-shift_terms-loop-term l = l.made ≡ map (term_under (shift_by l.by)) (take l.term-index l.terms)
