use Rattle.std.proofs.Common.{ℕ, ◌<◌, ◌+◌}
use Rattle.sc_term.specs.Proof.{IsStepAt}
use Rattle.sc_steps.proofs.checking.proof.all_steps.Given as goal

abbrev pub invariant-loop-at : goal.invariant-loop-at
invariant-loop-at l = (i : ℕ) → i < l.at → IsStepAt l.inputs l.lines (i + 1)
