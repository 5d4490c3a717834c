use Rattle.std.proofs.Common.{◌≡◌, ◌*◌, ◌+◌, map, take}
use Rattle.sc_term.specs.Term.{term_under, term_depth, largest}
use Rattle.sc_unify.specs.Bindings.{bindings, finished}
use Rattle.sc_unify.proofs.write.+writing.Given as goal

abbrev pub decreases-write_term : goal.decreases-write_term
decreases-write_term l = 2 * term_depth (term_under (finished (bindings l.bound.now)) l.term.now)

abbrev pub decreases-write_terms : goal.decreases-write_terms
decreases-write_terms l = 2 * largest (map term_depth (map (term_under (finished (bindings l.bound.now))) l.terms.now)) + 1

abbrev pub invariant-write_terms-loop-term : goal.invariant-write_terms-loop-term
invariant-write_terms-loop-term l = l.made ≡ map (term_under (finished (bindings l.bound))) (take l.term-index l.terms)
