use Rattle.std.proofs.Common.{◌≡◌, ℕ, List, ◌++◌, take, true, is_some, slice_index}
use Rattle.sc_find_given.specs.Lookup.{look_up, found_terms}
use Rattle.sc_find_given.proofs.evaluate.odd_equation.Given as goal

abbrev pub invariant-loop-arg : goal.invariant-loop-arg
invariant-loop-arg l =
    (more : List ℕ) → is_some (found_terms (look_up l.size l.rows (l.given ++ more)) (slice_index l.values) (take l.arg-index l.args)) ≡ true
