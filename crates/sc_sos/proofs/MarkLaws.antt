-- Whether a clause is marked False is told by its mark.
use Rattle.std.proofs.Common.{◌≡◌, subst, refl, ℕ, arith}
use Rattle.std.specs.Prelude.{◌↔◌}
use Rattle.std.specs.List.{Contains}
use Rattle.sc_term.specs.declared.Clause.{Clause}
use Rattle.sc_term.specs.declared.Numbered.{Numbered}
use Rattle.sc_interp.specs.declared.plain.Truth.{Truth}
use Rattle.sc_interp.specs.declared.plain.Truth.TheVariants.{True, False, Wide}
use Rattle.sc_interp.specs.Structure.{Structure}
use Rattle.sc_interp.specs.Marks.{IsMark}
use Rattle.sc_mark.specs.Marked.{Marked, HasTruth, IsMarkedFalse}

no_other : (t : Structure) (c : Clause) (truth : Truth) → IsMark t c truth → IsMark t c False → truth ≡ False
no_other t c True h k = absurd (k.1 h.1)
no_other t c False h k = refl
no_other t c Wide h k = absurd (omega (arith, h, k.0))

-- every clause of the number has this truth, and there is one
pub told_by : (marked : Marked) (n : ℕ) (truth : Truth) → HasTruth marked n truth
    → ((p : Numbered) → Contains marked.clauses p → p.number ≡ n → IsMark marked.version.tables p.clause truth)
    → (truth ≡ False) ↔ IsMarkedFalse marked n
told_by marked n truth there only =
    (λ e. subst (HasTruth marked n) e there, λ h. no_other marked.version.tables (h.0).clause truth (only h.0 h.1 h.2) h.3)
