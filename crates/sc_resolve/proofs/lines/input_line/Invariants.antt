use Rattle.std.proofs.Common.{ℕ, ◌≤◌}
use Rattle.sc_steps.specs.Derivation.{IsInputAt}
use Rattle.sc_resolve.proofs.lines.input_line.Given as goal

abbrev pub invariant-loop-at : goal.invariant-loop-at
invariant-loop-at l = (j : ℕ) → j ≤ l.at → ¬ IsInputAt l.lines l.n j
