use Rattle.std.proofs.Common.{◌≡◌, ◌≢◌, ℕ, ◌<◌, Some, slice_get}
use Rattle.sc_term.specs.declared.Numbered.{Numbered}
use Rattle.sc_core_sites.proofs.concluding.parent.Given as goal

abbrev pub invariant-loop-at : goal.invariant-loop-at
invariant-loop-at l = (k : ℕ) (p : Numbered) → k < l.at → slice_get l.parents k ≡ Some p → p.number ≢ l.number
