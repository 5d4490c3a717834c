use Rattle.std.proofs.Common.{◌≡◌, ◌≢◌, ℕ, ◌<◌, Some, slice_get}
use Rattle.sc_term.specs.declared.Numbered.{Numbered}
use Rattle.sc_hyper.proofs.named.find.Given as goal

abbrev pub invariant-loop-at : goal.invariant-loop-at
invariant-loop-at l = (k : ℕ) (p : Numbered) → k < l.at → slice_get l.usable k ≡ Some p → p.number ≢ l.n
