use Rattle.std.proofs.Common.{◌≡◌, ◌≤◌, ◌*◌, ◌+◌, map, sum, take}
use Rattle.sc_term.specs.Term.{term_under, term_weight, term_depth, largest}
use Rattle.sc_unify.specs.Bindings.{bindings, finished}
use Rattle.sc_unify.proofs.limits.+spending.Given as goal

abbrev pub decreases-spend_term : goal.decreases-spend_term
decreases-spend_term l = 2 * l.depth

abbrev pub decreases-spend_terms : goal.decreases-spend_terms
decreases-spend_terms l = 2 * l.depth + 1

abbrev pub invariant-spend_terms-loop-term : goal.invariant-spend_terms-loop-term
invariant-spend_terms-loop-term l =
    let made = map (term_under (finished (bindings l.bound))) (take l.term-index l.terms) in
    (l.left + sum (map term_weight made) ≡ l.weight) × (largest (map term_depth made) ≤ l.depth)
