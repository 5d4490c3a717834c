-- The demodulators of the input, in rising order.
use Rattle.std.proofs.Common.{◌≡◌, ◌∙◌, sym, ap, subst, refl, ℕ, zero, suc, ◌+◌, ◌<◌, List, [], ◌∷◌, length, take, get_or, slice_get, zip, Some, arith}
use Rattle.std.specs.List.{Contains, All, AllByRecursion, AllPairs}
use Rattle.std.proofs.lemmas.List.{get_or-take, get_or_default, length-take-le}
use Rattle.std.proofs.lemmas.List.Elements.{Contains-get_or}
use Rattle.sc_term.specs.declared.Clause.{Clause}
use Rattle.sc_term.specs.declared.Numbered.{Numbered}
use Rattle.sc_term.specs.Numbering.{numbered}
use Rattle.sc_input_rules.specs.declared.settings.Home.{Home}
use Rattle.sc_input_rules.specs.declared.settings.Home.TheVariants.{Demodulators}
use Rattle.sc_input_rules.specs.WellFormed.{FitsHome}
use Rattle.sc_core_rules.specs.Order.{IsFilter}
use Rattle.sc_core_rules.specs.Rewriting.{IsDemodulator}
use Rattle.sc_core_rules.specs.Start.{numbered_from}
use Rattle.sc_core_rules.proofs.DemodulatorLaws.{home_of_demodulators}
use Rattle.sc_core_rules.proofs.FilterLaws.{filter_within}
use Rattle.sc_core_rules.proofs.NumberLaws.{numbered-suc}

-- ---- what stands at a place

number_at_place : (n : ℕ) (cs : List Clause) (k : ℕ) (d : Numbered) → k < length (numbered_from n cs) → (get_or (numbered_from n cs) k d).number ≡ n + k
number_at_place n [] k d less = absurd (omega (arith, less))
number_at_place n (c ∷ cs) zero d less = omega arith
number_at_place n (c ∷ cs) (suc k) d less = let h = number_at_place (n + 1) cs k d (omega (arith, less)) in omega (arith, h)

clause_at_place : (n : ℕ) (cs : List Clause) (k : ℕ) (d : Numbered) → k < length (numbered_from n cs) → slice_get cs k ≡ Some (get_or (numbered_from n cs) k d).clause
clause_at_place n [] k d less = absurd (omega (arith, less))
clause_at_place n (c ∷ cs) zero d less = refl
clause_at_place n (c ∷ cs) (suc k) d less = clause_at_place (n + 1) cs k d (omega (arith, less))

rising_from : (n : ℕ) (cs : List Clause) → AllPairs (λ (p q : Numbered). p.number < q.number) (numbered_from n cs)
rising_from n cs i j d less within =
    let low = number_at_place n cs i d (omega (arith, less, within)) in
    let high = number_at_place n cs j d within in
    omega (arith, low, high, less)

pub all_rising : (cs : List Clause) (all : List Numbered) → all ≡ numbered_from 1 cs → AllPairs (λ (p q : Numbered). p.number < q.number) all
all_rising cs all e = subst (AllPairs (λ (p q : Numbered). p.number < q.number)) (sym e) (rising_from 1 cs)

-- a clause whose home is the list of demodulators is one
abbrev pub IsOneAt : List Home → Numbered → Type 0
IsOneAt homes p = numbered homes p.number ≡ Some Demodulators → IsDemodulator p.clause

pub all_demodulators : (homes : List Home) (cs : List Clause) (all : List Numbered) → all ≡ numbered_from 1 cs → AllByRecursion FitsHome (zip homes cs) → All (IsOneAt homes) all
all_demodulators homes cs all e h = subst (All (IsOneAt homes)) (sym e) each
  where
    each : All (IsOneAt homes) (numbered_from 1 cs)
    each k d less at =
        let here : (get_or (numbered_from 1 cs) k d).number ≡ suc k = let n = number_at_place 1 cs k d less in omega (arith, n) in
        home_of_demodulators homes cs k (get_or (numbered_from 1 cs) k d).clause h (sym (numbered-suc homes k) ∙ ap (numbered homes) (sym here) ∙ at) (clause_at_place 1 cs k d less)

-- ---- one more of them

pub earlier_less : (P : Numbered → Type 0) (all ds : List Numbered) (i : ℕ) (p : Numbered) (n : ℕ) → AllPairs (λ (p q : Numbered). p.number < q.number) all → i < length all → p ≡ get_or all i p → n ≡ p.number
    → IsFilter P (take i all) ds → All (λ (q : Numbered). q.number < n) ds
earlier_less P all ds i p n up less here is h k d within = by (filter_within P (get_or ds k d) (take i all) ds h (Contains-get_or ds k d within)).0
  where
    by : Contains (take i all) (get_or ds k d) → (get_or ds k d).number < n
    by there =
        let long = length-take-le i all (omega (arith, less)) in
        let before : there.0 < i = omega (arith, long, there.1) in
        let q = get_or ds k d in
        let same : get_or all there.0 q ≡ q = sym (get_or-take i all there.0 q before) ∙ there.2 in
        let rises = up there.0 i q before less in
        let one : (get_or all there.0 q).number ≡ q.number = ap (λ (r : Numbered). r.number) same in
        let two : (get_or all i q).number ≡ p.number = ap (λ (r : Numbered). r.number) (get_or_default all i q p less ∙ sym here) in
        omega (arith, rises, one, two, is)

pub is_one : (homes : List Home) (all : List Numbered) (i : ℕ) (p : Numbered) → All (IsOneAt homes) all → i < length all → p ≡ get_or all i p → numbered homes p.number ≡ Some Demodulators → IsDemodulator p.clause
is_one homes all i p h less here at = subst (IsOneAt homes) (sym here) (h i p less) at
