use Rattle.std.proofs.Common.{ℕ, List, ◌++◌, take, slice_index}
use Rattle.sc_find_given.specs.Lookup.{look_up, found_terms}
use Rattle.sc_find_given.proofs.LookupLaws.{IsPlaced}
use Rattle.sc_find_given.proofs.evaluate.+evaluate.Given as goal

abbrev pub invariant-place-loop-arg : goal.invariant-place-loop-arg
invariant-place-loop-arg l =
    (more : List ℕ) → IsPlaced l.size (found_terms (look_up l.size l.rows (l.given ++ more)) (slice_index l.values) (take l.arg-index l.args)) l.at
