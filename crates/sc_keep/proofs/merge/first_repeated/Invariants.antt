use Rattle.std.proofs.Common.{◌≤◌, ℕ}
use Rattle.sc_core_rules.specs.Simplification.{IsRepeated}
use Rattle.sc_keep.proofs.merge.first_repeated.Given as goal

abbrev pub invariant-loop-at : goal.invariant-loop-at
invariant-loop-at l = (b : ℕ) → b ≤ l.at → ¬ IsRepeated (record { literals = l.literals }) b
