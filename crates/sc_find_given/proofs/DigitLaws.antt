-- Digits taken off the end of a number, one after another.
use Rattle.std.proofs.Common.{◌≡◌, ◌∙◌, sym, ap, subst, refl, ℕ, suc, ◌+◌, ◌/◌, ◌%◌, ◌<◌, List, [], ◌∷◌, ◌++◌, append_assoc, reverse, length, arith}
use Rattle.std.specs.List.{All}
use Rattle.std.proofs.lemmas.List.{append-nil, length-append, reverse-append, reverse-reverse}
use Rattle.std.proofs.lemmas.List.Elements.{All-head}
use Rattle.sc_interp.specs.Structure.{place_of}
use Rattle.sc_find_given.proofs.PlaceLaws.{digit_off}

-- of each list of digits that stands at the place, the last ones are taken, so many, and the others are left
abbrev pub AreDigits : ℕ → ℕ → ℕ → ℕ → List ℕ → ℕ → Type 0
AreDigits base count number taken digits rest =
    (front back : List ℕ) → length back ≡ taken → length front + length back ≡ count → All (λ d. d < base) (front ++ back) → place_of base (front ++ back) ≡ number
    → (digits ≡ reverse back) × (rest ≡ place_of base front)

pub digits_none : (base count number : ℕ) → AreDigits base count number 0 [] number
digits_none base count number front [] none long below is = (refl, sym is ∙ ap (place_of base) (append-nil front))
digits_none base count number front (d ∷ back) none long below is = absurd (omega arith)

middle : (base d : ℕ) (front back : List ℕ) → All (λ d. d < base) (front ++ d ∷ back) → d < base
middle base d [] back h = All-head (λ d. d < base) d back h
middle base d (f ∷ front) back h = middle base d front back (λ k e lt. h (suc k) e (omega arith))

pub digits_more : (base count number taken rest : ℕ) (digits : List ℕ) → AreDigits base count number taken digits rest
    → AreDigits base count number (taken + 1) (digits ++ rest % base ∷ []) (rest / base)
digits_more base count number taken rest digits before front [] one long below is = absurd (omega arith)
digits_more base count number taken rest digits before front (d ∷ back) one long below is =
    let join : front ++ d ∷ [] ++ back ≡ front ++ d ∷ back = append_assoc front (d ∷ []) back in
    let digit : d < base = middle base d front back below in
    let old = before (front ++ d ∷ []) back (omega arith) (omega (arith, length-append front (d ∷ [])))
    (subst (All (λ d. d < base)) (sym join) below) (ap (place_of base) join ∙ is) in
    let off = digit_off base front d digit in
    let last : rest % base ≡ d = ap (λ n. n % base) old.1 ∙ off.0 in
    ((λ i. old.0 i ++ last i ∷ []) ∙ sym (reverse-append (d ∷ []) back), ap (λ n. n / base) old.1 ∙ off.1)

pub digits_all : (base count number rest : ℕ) (digits : List ℕ) → AreDigits base count number count digits rest
    → (ds : List ℕ) → length ds ≡ count → All (λ d. d < base) ds → place_of base ds ≡ number → reverse digits ≡ ds
digits_all base count number rest digits all ds long below is =
    ap reverse (all [] ds long (omega arith) below is).0 ∙ reverse-reverse ds

pub digits_step : (base wide count number taken rest : ℕ) (digits next : List ℕ) → wide ≡ base → next ≡ digits ++ rest % wide ∷ []
    → AreDigits base count number taken digits rest → AreDigits base count number (taken + 1) next (rest / wide)
digits_step base wide count number taken rest digits next same is before =
    subst (λ (w : ℕ). AreDigits base count number (taken + 1) next (rest / w)) (sym same)
    (subst (λ (ds : List ℕ). AreDigits base count number (taken + 1) ds (rest / base)) (sym (is ∙ ap (λ w. digits ++ rest % w ∷ []) same))
    (digits_more base count number taken rest digits before))
