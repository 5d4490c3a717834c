-- A list in order is the only one: sites, deleted clauses, cells and nodes are each one list.
use Rattle.std.proofs.Common.{◌≡◌, ◌∙◌, sym, subst, refl, ℕ, zero, suc, ◌<◌, ◌⊎◌, inl, inr, List, [], ◌∷◌, arith}
use Rattle.std.specs.List.{Contains, AllPairs}
use Rattle.sc_core_rules.specs.Order.{IsBefore, AreInOrder}
use Rattle.sc_term.proofs.ContainsLaws.{first_or_later, at_first, later}
use Rattle.sc_core_rules.proofs.DerivationLaws.{compared}

-- ---- before

pub not_before_itself : (ns : List ℕ) → ¬ IsBefore ns ns
not_before_itself [] h = h
not_before_itself (n ∷ ns) (inl h) = absurd (omega arith)
not_before_itself (n ∷ ns) (inr h) = not_before_itself ns h.1

pub not_both : (ms ns : List ℕ) → IsBefore ms ns → ¬ IsBefore ns ms
not_both ms [] h k = h
not_both [] (n ∷ ns) h k = k
not_both (m ∷ ms) (n ∷ ns) (inl h) (inl k) = absurd (omega arith)
not_both (m ∷ ms) (n ∷ ns) (inl h) (inr k) = absurd (omega (arith, k.0))
not_both (m ∷ ms) (n ∷ ns) (inr h) (inl k) = absurd (omega (arith, h.0))
not_both (m ∷ ms) (n ∷ ns) (inr h) (inr k) = not_both ms ns h.1 k.1

pub before_over : (ks ms ns : List ℕ) → IsBefore ks ms → IsBefore ms ns → IsBefore ks ns
before_over ks ms [] h k = k
before_over [] (m ∷ ms) (n ∷ ns) h k = tt
before_over (k ∷ ks) [] (n ∷ ns) h j = absurd h
before_over [] [] (n ∷ ns) h j = tt
before_over (k ∷ ks) (m ∷ ms) (n ∷ ns) (inl h) (inl j) = inl (omega (arith, h, j))
before_over (k ∷ ks) (m ∷ ms) (n ∷ ns) (inl h) (inr j) = inl (omega (arith, h, j.0))
before_over (k ∷ ks) (m ∷ ms) (n ∷ ns) (inr h) (inl j) = inl (omega (arith, h.0, j))
before_over (k ∷ ks) (m ∷ ms) (n ∷ ns) (inr h) (inr j) = inr (h.0 ∙ j.0, before_over ks ms ns h.1 j.1)

-- of two lists one comes before the other, or they are one
pub one_before : (ms ns : List ℕ) → IsBefore ms ns ⊎ (ms ≡ ns) ⊎ IsBefore ns ms
one_before [] [] = inr (inl refl)
one_before [] (n ∷ ns) = inl tt
one_before (m ∷ ms) [] = inr (inr tt)
one_before (m ∷ ms) (n ∷ ns) = by (compared m n) (one_before ms ns)
  where
    by : (m < n) ⊎ (m ≡ n) ⊎ (n < m) → IsBefore ms ns ⊎ (ms ≡ ns) ⊎ IsBefore ns ms → IsBefore (m ∷ ms) (n ∷ ns) ⊎ (m ∷ ms ≡ n ∷ ns) ⊎ IsBefore (n ∷ ns) (m ∷ ms)
    by (inl less) rest = inl (inl less)
    by (inr (inr less)) rest = inr (inr (inl less))
    by (inr (inl e)) (inl h) = inl (inr (e, h))
    by (inr (inl e)) (inr (inr h)) = inr (inr (inr (sym e, h)))
    by (inr (inl e)) (inr (inl es)) = inr (inl (λ i. e i ∷ es i))

-- ---- elements

pub first_before : {X : Type 0} (R : X → X → Type 0) (x z : X) (xs : List X) → AllPairs R (x ∷ xs) → Contains xs z → R x z
first_before R x z xs pairs h = subst (R x) h.2 (pairs zero (suc h.0) z (omega arith) (omega (arith, h.1)))

pub tail_pairs : {X : Type 0} (R : X → X → Type 0) (x : X) (xs : List X) → AllPairs R (x ∷ xs) → AllPairs R xs
tail_pairs R x xs pairs i j d below within = pairs (suc i) (suc j) d (omega arith) (omega arith)

-- ---- lists in order

abbrev pub Rises : {X : Type 0} → (X → List ℕ) → List X → Type 0
Rises numbers xs = AllPairs (λ x y. IsBefore (numbers x) (numbers y)) xs

module _ {X : Type 0} (numbers : X → List ℕ) where
  -- the first elements of two such lists with the same elements are the same
  same_first : (x y : X) (xs ys : List X) → Rises numbers (x ∷ xs) → Rises numbers (y ∷ ys)
      → (y ≡ x) ⊎ Contains ys x → (x ≡ y) ⊎ Contains xs y → x ≡ y
  same_first x y xs ys up down (inl e) h = sym e
  same_first x y xs ys up down (inr h) (inl e) = e
  same_first x y xs ys up down (inr h) (inr k) =
      absurd (not_both (numbers y) (numbers x) (first_before (λ a b. IsBefore (numbers a) (numbers b)) y x ys down h)
      (first_before (λ a b. IsBefore (numbers a) (numbers b)) x y xs up k))

  -- what stands later in the one stands later in the other
  pub in_rest : (x y z : X) (xs ys : List X) → Rises numbers (x ∷ xs) → x ≡ y → Contains xs z → (y ≡ z) ⊎ Contains ys z → Contains ys z
  in_rest x y z xs ys up e h (inr k) = k
  in_rest x y z xs ys up e h (inl f) =
      absurd (not_before_itself (numbers z) (subst (λ a. IsBefore (numbers a) (numbers z)) (e ∙ f) (first_before (λ a b. IsBefore (numbers a) (numbers b)) x z xs up h)))

  pub rising_is_one : (xs ys : List X) → Rises numbers xs → Rises numbers ys → ((z : X) → Contains xs z → Contains ys z)
      → ((z : X) → Contains ys z → Contains xs z) → xs ≡ ys
  rising_is_one [] [] up down to from = refl
  rising_is_one [] (y ∷ ys) up down to from = absurd (nothing_in y (from y (at_first y ys)))
    where
      nothing_in : (y : X) → ¬ Contains [] y
      nothing_in y h = omega (arith, h.1)
  rising_is_one (x ∷ xs) [] up down to from = absurd (nothing_in x (to x (at_first x xs)))
    where
      nothing_in : (y : X) → ¬ Contains [] y
      nothing_in y h = omega (arith, h.1)
  rising_is_one (x ∷ xs) (y ∷ ys) up down to from =
      let e : x ≡ y = same_first x y xs ys up down (first_or_later x y ys (to x (at_first x xs))) (first_or_later y x xs (from y (at_first y ys))) in
      let rest : xs ≡ ys =
      rising_is_one xs ys
      (tail_pairs (λ a b. IsBefore (numbers a) (numbers b)) x xs up)
      (tail_pairs (λ a b. IsBefore (numbers a) (numbers b)) y ys down)
      (λ z h. in_rest x y z xs ys up e h (first_or_later z y ys (to z (later z x xs h))))
      (λ z h. in_rest y x z ys xs down (sym e) h (first_or_later z x xs (from z (later z y ys h)))) in
      λ i. e i ∷ rest i

  -- the things of which P holds have one list in order
  pub in_order_is_one : (P : X → Type 0) (xs ys : List X) → AreInOrder numbers P xs → AreInOrder numbers P ys → xs ≡ ys
  in_order_is_one P xs ys one two =
      rising_is_one xs ys one.rising two.rising
      (λ z h. two.all z (subst P h.2 (one.only h.0 z h.1)))
      (λ z h. one.all z (subst P h.2 (two.only h.0 z h.1)))
