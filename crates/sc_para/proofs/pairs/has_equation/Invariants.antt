use Rattle.std.proofs.Common.{◌≢◌, ◌<◌, ℕ, Some, true, slice_get}
use Rattle.sc_term.specs.declared.Term.{Term}
use Rattle.sc_term.specs.Refuted.{equation}
use Rattle.sc_para.proofs.pairs.has_equation.Given as goal

abbrev pub invariant-loop-l : goal.invariant-loop-l
invariant-loop-l l = (k : ℕ) → k < l.l-index → (left right : Term) → slice_get l.literals k ≢ Some (equation true left right)
