use Rattle.std.proofs.Common.{◌≡◌, ℕ, ◌<◌, Some, slice_get, length}
use Rattle.sc_term.specs.declared.Term.{Var}
use Rattle.sc_resolve.specs.Canonical.{place_in}
use Rattle.sc_resolve.proofs.canonical.numbering.Given as goal

abbrev pub invariant-loop-n : goal.invariant-loop-n
invariant-loop-n l = record { many : length l.terms ≡ l.n; each : (k : ℕ) → k < l.n → slice_get l.terms k ≡ Some (Var (place_in l.order k)) }
