-- The first things of which something holds are one list.
use Rattle.std.proofs.Common.{◌≡◌, sym, subst, refl, ℕ, suc, ◌⊎◌, inl, inr, List, [], ◌∷◌, length, ◌-◌, ◌≤◌, arith}
use Rattle.std.specs.List.{Contains, All}
use Rattle.sc_core_rules.specs.Order.{IsBefore, AreFirst}
use Rattle.sc_core_rules.proofs.OrderLaws.{not_both, first_before, tail_pairs, Rises, in_rest}
use Rattle.sc_term.proofs.ContainsLaws.{first_or_later, at_first, later}

-- what stands in the one stands in the other, or the other is full of what comes before
abbrev Covers : {X : Type 0} → (X → List ℕ) → List X → List X → ℕ → Type 0
Covers {X} numbers xs ys n = (z : X) → Contains xs z → Contains ys z ⊎ ((length ys ≡ n) × All (λ y. IsBefore (numbers y) (numbers z)) ys)

module _ {X : Type 0} (numbers : X → List ℕ) where
  -- the first of ys is x or comes before it
  first_reaches : (x y : X) (ys : List X) (n : ℕ) → Rises numbers (y ∷ ys)
      → Contains (y ∷ ys) x ⊎ ((length (y ∷ ys) ≡ n) × All (λ v. IsBefore (numbers v) (numbers x)) (y ∷ ys)) → (y ≡ x) ⊎ IsBefore (numbers y) (numbers x)
  first_reaches x y ys n down (inl h) = by (first_or_later x y ys h)
    where
      by : (y ≡ x) ⊎ Contains ys x → (y ≡ x) ⊎ IsBefore (numbers y) (numbers x)
      by (inl e) = inl e
      by (inr k) = inr (first_before (λ a b. IsBefore (numbers a) (numbers b)) y x ys down k)
  first_reaches x y ys n down (inr full) = inr (full.1 0 y (omega arith))

  same_heads : (x y : X) → (y ≡ x) ⊎ IsBefore (numbers y) (numbers x) → (x ≡ y) ⊎ IsBefore (numbers x) (numbers y) → x ≡ y
  same_heads x y (inl e) h = sym e
  same_heads x y (inr h) (inl e) = e
  same_heads x y (inr h) (inr k) = absurd (not_both (numbers y) (numbers x) h k)

  -- the tails cover each other too
  tails : (x y : X) (xs ys : List X) (n : ℕ) → Rises numbers (x ∷ xs) → x ≡ y → Covers numbers (x ∷ xs) (y ∷ ys) n → Covers numbers xs ys (n - 1)
  tails x y xs ys n up e covers z h = by (covers z (later z x xs h))
    where
      by : Contains (y ∷ ys) z ⊎ ((length (y ∷ ys) ≡ n) × All (λ v. IsBefore (numbers v) (numbers z)) (y ∷ ys))
          → Contains ys z ⊎ ((length ys ≡ n - 1) × All (λ v. IsBefore (numbers v) (numbers z)) ys)
      by (inl k) = inl (in_rest numbers x y z xs ys up e h (first_or_later z y ys k))
      by (inr full) = inr (omega (arith, full.0), λ k d within. full.1 (suc k) d (omega arith))

  covered_is_one : (xs ys : List X) (n : ℕ) → Rises numbers xs → Rises numbers ys → length xs ≤ n → length ys ≤ n
      → Covers numbers xs ys n → Covers numbers ys xs n → xs ≡ ys
  covered_is_one [] [] n up down short low to from = refl
  covered_is_one [] (y ∷ ys) n up down short low to from = absurd (by (from y (at_first y ys)))
    where
      by : Contains [] y ⊎ ((length {A = X} [] ≡ n) × All (λ v. IsBefore (numbers v) (numbers y)) []) → ⊥
      by (inl h) = omega (arith, h.1)
      by (inr full) = omega (arith, full.0, low)
  covered_is_one (x ∷ xs) [] n up down short low to from = absurd (by (to x (at_first x xs)))
    where
      by : Contains [] x ⊎ ((length {A = X} [] ≡ n) × All (λ v. IsBefore (numbers v) (numbers x)) []) → ⊥
      by (inl h) = omega (arith, h.1)
      by (inr full) = omega (arith, full.0, short)
  covered_is_one (x ∷ xs) (y ∷ ys) n up down short low to from =
      let e : x ≡ y = same_heads x y (first_reaches x y ys n down (to x (at_first x xs))) (first_reaches y x xs n up (from y (at_first y ys))) in
      let rest : xs ≡ ys =
      covered_is_one xs ys (n - 1)
      (tail_pairs (λ a b. IsBefore (numbers a) (numbers b)) x xs up)
      (tail_pairs (λ a b. IsBefore (numbers a) (numbers b)) y ys down)
      (omega arith) (omega arith)
      (tails x y xs ys n up e to)
      (tails y x ys xs n down (sym e) from) in
      λ i. e i ∷ rest i

  -- the first things of which P holds are one list
  pub first_is_one : (P : X → Type 0) (n : ℕ) (xs ys : List X) → AreFirst numbers P n xs → AreFirst numbers P n ys → xs ≡ ys
  first_is_one P n xs ys one two =
      covered_is_one xs ys n one.rising two.rising one.no_more two.no_more
      (λ z h. two.first z (subst P h.2 (one.only h.0 z h.1)))
      (λ z h. one.first z (subst P h.2 (two.only h.0 z h.1)))
