-- The numbers of the subsumed clauses, sorted, are those of the clauses in rising order.
use Rattle.std.proofs.Common.{◌≡◌, ◌∙◌, sym, ap, subst, refl, ℕ, ◌<◌, inl, Bool, true, false, not, ◌||◌, cond, List, [], ◌∷◌, ◌++◌, length, get_or, set, map, arith, nat_eq}
use Rattle.std.specs.List.{Contains, AllPairs, AllByRecursion, IsDistinct, list_any, swap}
use Rattle.std.specs.List.Sorted.{IsPermutation, IsNonDecreasing, IsSorted}
use Rattle.std.proofs.lemmas.List.Sorted.{IsPermutation-refl, IsPermutation-sym, IsPermutation-swap, IsPermutation-trans, Contains-permutation, IsPermutation-keeps, IsNonDecreasingBy-from_sort}
use Rattle.std.proofs.lemmas.List.{length-map, map-append, map-set, get_or-map}
use Rattle.std.proofs.lemmas.Bool.{eqb-true, eqb-false}
use Rattle.std.specs.Ordering.{nat_cmp}
use Rattle.std.proofs.lemmas.List.Kept.{AllPairs-from_increasing}
use Rattle.std.proofs.lemmas.List.Elements.{Contains-get_or}
use Rattle.std.proofs.lemmas.Map.Keys.{IsDistinct-cons, IsDistinct-head, IsDistinct-tail, IsDistinct-IsPermutation, IsStrictlyIncreasing-from_distinct}
use Rattle.sc_term.specs.declared.Numbered.{Numbered}
use Rattle.sc_core_rules.specs.Order.{IsBefore, AreInOrder, IsFilter, taken, passed, none}
use Rattle.sc_core_rules.specs.Rewriting.{number_of}
use Rattle.sc_core_rules.specs.Book.{leaving_out}
use Rattle.sc_core_rules.proofs.FilterLaws.{filter_append, filter_within, filter_holds}
use Rattle.sc_keep.specs.Sweep.{HaveDistinctNumbers, numbers, without_numbers}

-- ---- the numbers of those that are picked are distinct

differ_picked : (n : ℕ) (P : Numbered → Type 0) (ps picked : List Numbered) → IsFilter P ps picked → AllByRecursion (λ m. nat_eq n m ≡ false) (numbers ps) → AllByRecursion (λ m. nat_eq n m ≡ false) (numbers picked)
differ_picked n P ps picked none h = h
differ_picked n P ps picked (taken holds rest) h = (h.0, differ_picked n P _ _ rest h.1)
differ_picked n P ps picked (passed fails rest) h = differ_picked n P _ _ rest h.1

distinct_picked : (P : Numbered → Type 0) (ps picked : List Numbered) → IsFilter P ps picked → HaveDistinctNumbers ps → HaveDistinctNumbers picked
distinct_picked P ps picked none h = h
distinct_picked P ps picked (taken {x} {xs} {ys} holds rest) h =
    IsDistinct-cons nat_eq x.number (numbers ys) (differ_picked x.number P xs ys rest (IsDistinct-head nat_eq x.number (numbers xs) h))
    (distinct_picked P xs ys rest (IsDistinct-tail nat_eq x.number (numbers xs) h))
distinct_picked P ps picked (passed {x} {xs} {ys} fails rest) h = distinct_picked P xs ys rest (IsDistinct-tail nat_eq x.number (numbers xs) h)

-- ---- a permutation of the numbers is one of the clauses

numbers_swap : (ps : List Numbered) (i j : ℕ) → i < length ps → j < length ps → numbers (swap ps i j) ≡ swap (numbers ps) i j
numbers_swap [] i j first second = absurd (omega (arith, first))
numbers_swap (d ∷ ds) i j first second =
    let f = λ (p : Numbered). p.number in
    let ps = d ∷ ds in
    map-set f (set ps i (get_or ps j d)) j (get_or ps i d)
    ∙ (λ t. set ((map-set f ps i (get_or ps j d) ∙ ap (set (map f ps) i) (sym (get_or-map f ps j d (f d) second))) t) j (sym (get_or-map f ps i d (f d) first) t))

-- the clauses in an order in which they have these numbers
abbrev Ordered : List Numbered → List ℕ → Type 0
Ordered picked l = (others : List Numbered) × IsPermutation picked others × (numbers others ≡ l)

-- what is exchanged among the numbers is exchanged among the clauses
one_more : (picked : List Numbered) (l : List ℕ) (i j : ℕ) → i < length l → j < length l → Ordered picked l → Ordered picked (swap l i j)
one_more picked l i j first second h =
    let f = λ (p : Numbered). p.number in
    let long : length l ≡ length h.0 = ap (λ (ns : List ℕ). length ns) (sym h.2) ∙ length-map h.0 f in
    let i_within : i < length h.0 = omega (arith, first, long) in
    let j_within : j < length h.0 = omega (arith, second, long) in (
      swap h.0 i j,
      IsPermutation-trans picked h.0 (swap h.0 i j) h.1 (IsPermutation-swap h.0 (swap h.0 i j) i j i_within j_within refl),
      numbers_swap h.0 i j i_within j_within ∙ ap (λ ns. swap ns i j) h.2,
    )

exchanged : (picked : List Numbered) (gone : List ℕ) → IsPermutation (numbers picked) gone → Ordered picked gone
exchanged picked gone p = IsPermutation-keeps (numbers picked) (Ordered picked) (picked, IsPermutation-refl picked, refl) (one_more picked) gone p

-- ---- rising numbers

rises : (others : List Numbered) → AllPairs (λ m n. m < n) (numbers others) → AllPairs (λ p q. IsBefore (number_of p) (number_of q)) others
rises others up i j d less within =
    let f = λ (p : Numbered). p.number in
    let low = get_or-map f others i d d.number (omega (arith, less, within)) in
    let high = get_or-map f others j d d.number within in
    let below = up i j d.number less (omega (arith, within, length-map others f)) in
    inl (omega (arith, low, high, below))

pub flips : (m n : ℕ) → nat_eq m n ≡ nat_eq n m
flips m n = by (nat_eq m n) (nat_eq n m) refl refl
  where
    by : (a b : Bool) → nat_eq m n ≡ a → nat_eq n m ≡ b → nat_eq m n ≡ nat_eq n m
    by true true e f = e ∙ sym f
    by false false e f = e ∙ sym f
    by true false e f = absurd (eqb-false n m f (sym (eqb-true m n e)))
    by false true e f = absurd (eqb-false m n e (sym (eqb-true n m f)))

in_order : (P : Numbered → Type 0) (ps picked : List Numbered) (gone : List ℕ) → HaveDistinctNumbers ps → IsFilter P ps picked → IsPermutation (numbers picked) gone → IsNonDecreasing gone
    → (others : List Numbered) × AreInOrder number_of (λ p. Contains ps p × P p) others × (gone ≡ numbers others)
in_order P ps picked gone distinct filtered moved up =
    let others = exchanged picked gone moved in
    let differ : IsDistinct nat_eq gone = IsDistinct-IsPermutation nat_eq flips (numbers picked) gone moved (distinct_picked P ps picked filtered distinct) in
    let rising : AllPairs (λ m n. m < n) gone = AllPairs-from_increasing gone (IsStrictlyIncreasing-from_distinct gone up differ) in (
      others.0,
      record {
        rising = rises others.0 (subst (AllPairs (λ m n. m < n)) (sym others.2) rising);
        only = λ k d less. filter_within P _ ps picked filtered (Contains-permutation others.0 picked _ (IsPermutation-sym picked others.0 others.1) (Contains-get_or others.0 k d less));
        all = λ p h. Contains-permutation picked others.0 p others.1 (filter_holds P p ps picked filtered h.0 h.1);
      },
      sym others.2,
    )

-- what two lists give, one after the other, and sorted then
pub found_others : (P : Numbered → Type 0) (us ss xs ys : List Numbered) (start first second gone : List ℕ) → xs ≡ us → ys ≡ ss → start ≡ []
    → (picked : List Numbered) × IsFilter P xs picked × (first ≡ start ++ numbers picked)
    → (picked : List Numbered) × IsFilter P ys picked × (second ≡ first ++ numbers picked)
    → IsPermutation second gone → IsSorted nat_cmp gone → HaveDistinctNumbers (us ++ ss)
    → (others : List Numbered) × AreInOrder number_of (λ p. Contains (us ++ ss) p × P p) others × (gone ≡ numbers others)
found_others P us ss xs ys start first second gone same_us same_ss empty one two moved up distinct =
    let filtered = filter_append P us ss one.0 two.0 (subst (λ ps. IsFilter P ps one.0) same_us one.1) (subst (λ ps. IsFilter P ps two.0) same_ss two.1) in
    let is : second ≡ numbers (one.0 ++ two.0) =
    two.2 ∙ ap (λ ns. ns ++ numbers two.0) (one.2 ∙ ap (λ ns. ns ++ numbers one.0) empty) ∙ sym (map-append (λ (p : Numbered). p.number) one.0 two.0) in
    in_order P (us ++ ss) (one.0 ++ two.0) gone distinct filtered (subst (λ ns. IsPermutation ns gone) is moved) (IsNonDecreasingBy-from_sort (λ n. n) gone up)

-- what is said of clauses in order in other words
pub in_other_words : (P Q : Numbered → Type 0) → ((p : Numbered) → P p → Q p) → ((p : Numbered) → Q p → P p) → (others : List Numbered) → AreInOrder number_of P others → AreInOrder number_of Q others
in_other_words P Q to from others h = record { rising = h.rising; only = λ k d less. to (get_or others k d) (h.only k d less); all = λ p q. h.all p (from p q) }

-- ---- leaving out clauses is leaving out their numbers

pub any_number : (n : ℕ) (gone : List Numbered) → list_any (nat_eq n) (numbers gone) ≡ list_any (λ (g : Numbered). nat_eq n g.number) gone
any_number n [] = refl
any_number n (g ∷ gone) = ap (λ b. nat_eq n g.number || b) (any_number n gone)

pub left_out_by_number : (gone ps : List Numbered) → without_numbers (numbers gone) ps ≡ leaving_out gone ps
left_out_by_number gone [] = refl
left_out_by_number gone (p ∷ ps) = λ i. cond (not (any_number p.number gone i)) (p ∷ left_out_by_number gone ps i) (left_out_by_number gone ps i)
