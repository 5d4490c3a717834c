use Rattle.std.proofs.Common.{◌≢◌, ◌<◌, ℕ, slice_index_or}
use Rattle.sc_keep.proofs.merge.is_among.Given as goal

abbrev pub invariant-loop-m : goal.invariant-loop-m
invariant-loop-m l = (k : ℕ) → k < l.m-index → slice_index_or l.literals k l.l ≢ l.l
