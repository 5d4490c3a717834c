use Rattle.std.proofs.Common.{ℕ, List, ◌++◌, take, slice_index}
use Rattle.std.specs.List.{All}
use Rattle.sc_find_given.specs.Lookup.{look_up, IsFoundFalse}
use Rattle.sc_find_given.proofs.evaluate.clause_waits.Given as goal

abbrev pub invariant-loop-literal : goal.invariant-loop-literal
invariant-loop-literal l =
    (more : List ℕ) → All (IsFoundFalse (look_up l.size l.rows (l.given ++ more)) (slice_index l.values)) (take l.literal-index l.literal-items)
