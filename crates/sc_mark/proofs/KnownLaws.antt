-- What is known of a clause, and its mark.
use Rattle.std.proofs.Common.{◌≡◌, ◌∙◌, sym, ap, subst, refl, ℕ, ◌^◌, ◌<◌, ◌≤◌, Bool, true, false, true≢false, not, List, length, arith}
use Rattle.sc_term.specs.declared.Clause.{Clause}
use Rattle.sc_term.specs.Clause.{width}
use Rattle.sc_interp.specs.Structure.{Structure, Satisfies}
use Rattle.sc_interp.specs.Assignments.{AreElements, assignment_number, holds_at}
use Rattle.sc_interp.specs.Marks.{assignments, IsMark}
use Rattle.sc_interp.proofs.Assignments.{one_number, bounded}
use Rattle.sc_interp.proofs.Agreement.{falsified, satisfied}
use Rattle.sc_mark.specs.declared.known.Known.{Known}
use Rattle.sc_mark.specs.declared.known.Known.TheVariants.{True, False, Wide}
use Rattle.sc_mark.specs.Known.{truth_known, IsFalsifiedBy, IsKnown}

pub known_marks : (t : Structure) (c : Clause) (known : Known) → IsKnown t c known → IsMark t c (truth_known known)
known_marks t c True h = h
known_marks t c (False number) h = h.0
known_marks t c Wide h = h

-- an assignment makes no literal true
pub known_false : (t : Structure) (c : Clause) (number : ℕ) → 1 ≤ t.size → assignments t.size c ≤ 4096 → IsFalsifiedBy t c number → IsKnown t c (False number)
known_false t c number some few h = ((few, falsified t.size t.tables c h.values some h.elements h.none), h)

off : (b : Bool) → not b ≡ true → b ≡ false
off true e = absurd (true≢false (sym e))
off false e = refl

-- the assignment of the number is this one
pub falsified_by : (t : Structure) (c : Clause) (number : ℕ) (values : List ℕ) (holds : Bool) → length values ≡ width c → AreElements t.size values
    → assignment_number t.size values ≡ number → holds ≡ holds_at t.size t.tables c values
    → (not holds ≡ true → IsFalsifiedBy t c number) × (IsFalsifiedBy t c number → not holds ≡ true)
falsified_by t c number values holds long elements is told = (
  λ e. record { values = values; long = long; elements = elements; numbered = is; none = sym told ∙ off holds e },
  λ h. ap not (told ∙ ap (holds_at t.size t.tables c) (one_number t.size values h.values (long ∙ sym h.long) elements h.elements (is ∙ sym h.numbered)) ∙ h.none),
)

-- the number of an assignment is below that of all
pub below_all : (old new : Structure) (c : Clause) (number : ℕ) → old.size ≡ new.size → IsFalsifiedBy old c number → number < new.size ^ width c
below_all old new c number same h =
    subst (λ n. number < n ^ width c) same
    (subst (λ n. number < old.size ^ n) h.long (subst (λ n. n < old.size ^ length h.values) h.numbered (bounded old.size h.values h.elements)))

-- none of all the assignments makes every literal false
pub all_hold : (t : Structure) (c : Clause) (values : List ℕ) (count : ℕ) → width c ≤ length values → t.size ^ length values ≤ count
    → ((others : List ℕ) → length others ≡ length values → AreElements t.size others → assignment_number t.size others < count → holds_at t.size t.tables c others ≡ true)
    → Satisfies t c
all_hold t c values count wide all h =
    satisfied t.size t.tables c values wide (λ others long are. h others long are (omega (arith, bounded t.size others are, ap (λ n. t.size ^ n) long, all)))
