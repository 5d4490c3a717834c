-- The list of things in order is one.
use Rattle.std.proofs.Common.{◌≡◌, sym, subst, refl, ℕ, zero, suc, ◌⊎◌, inl, inr, List, [], ◌∷◌, get_or, arith}
use Rattle.std.specs.List.{AllPairs, Contains}
use Rattle.std.proofs.lemmas.List.Elements.{All-head, All-tail}
use Rattle.sc_cells.specs.Order.{IsBefore, AreInOrder}
use Rattle.sc_find.proofs.TriedLaws.{before_trans}

pub never_before_itself : (ns : List ℕ) → ¬ IsBefore ns ns
never_before_itself [] h = h
never_before_itself (n ∷ ns) h = elim h [
  | inl less ↦ omega (arith, less)
  | inr same ↦ never_before_itself ns same.1
]

module _ {X : Type 0} (numbers : X → List ℕ) where
  head_or_tail : (x y : X) (xs : List X) → Contains (x ∷ xs) y → (x ≡ y) ⊎ Contains xs y
  head_or_tail x y xs (zero, lt, e) = inl e
  head_or_tail x y xs (suc k, lt, e) = inr (k, omega (arith, lt), e)

  before_rest : (x : X) (xs : List X) (y : X) → AllPairs (λ x y. IsBefore (numbers x) (numbers y)) (x ∷ xs) → Contains xs y → IsBefore (numbers x) (numbers y)
  before_rest x xs y h (k, lt, e) = subst (λ z. IsBefore (numbers x) (numbers z)) e (h 0 (suc k) y (omega arith) (omega (arith, lt)))

  rest_rising : (x : X) (xs : List X) → AllPairs (λ x y. IsBefore (numbers x) (numbers y)) (x ∷ xs) → AllPairs (λ x y. IsBefore (numbers x) (numbers y)) xs
  rest_rising x xs h i j d lt within = h (suc i) (suc j) d (omega (arith, lt)) (omega (arith, within))

  rest_in_order : (P : X → Type 0) (x : X) (xs : List X) → AreInOrder numbers P (x ∷ xs) → AreInOrder numbers (λ y. P y × IsBefore (numbers x) (numbers y)) xs
  rest_in_order P x xs h = record {
    rising = rest_rising x xs h.rising;
    only = λ k d lt. (All-tail P x xs h.only k d lt, h.rising 0 (suc k) d (omega arith) (omega (arith, lt)));
    all = λ y p. elim (head_or_tail x y xs (h.all y p.0)) [
      | inl same ↦ absurd (never_before_itself (numbers y) (subst (λ z. IsBefore (numbers z) (numbers y)) same p.1))
      | inr more ↦ more
    ];
  }

  same_in_order : (P Q : X → Type 0) → ((x : X) → P x → Q x) → ((x : X) → Q x → P x) → (xs : List X) → AreInOrder numbers P xs → AreInOrder numbers Q xs
  same_in_order P Q to from xs h = record {
    rising = h.rising;
    only = λ k d lt. to (get_or xs k d) (h.only k d lt);
    all = λ x q. h.all x (from x q);
  }

  pub one_order : (P : X → Type 0) (xs ys : List X) → AreInOrder numbers P xs → AreInOrder numbers P ys → xs ≡ ys
  one_order P [] [] h k = refl
  one_order P [] (y ∷ ys) h k = let c = h.all y (All-head P y ys k.only) in absurd (omega (arith, c.1))
  one_order P (x ∷ xs) [] h k = let c = k.all x (All-head P x xs h.only) in absurd (omega (arith, c.1))
  one_order P (x ∷ xs) (y ∷ ys) h k =
      let rest = one_order (λ z. P z × IsBefore (numbers x) (numbers z)) xs ys (rest_in_order P x xs h)
      (subst (λ w. AreInOrder numbers (λ z. P z × IsBefore (numbers w) (numbers z)) ys) (sym heads) (rest_in_order P y ys k)) in
      λ i. heads i ∷ rest i
    where
      heads : x ≡ y
      heads = elim (head_or_tail y x ys (k.all x (All-head P x xs h.only))) [
        | inl same ↦ sym same
        | inr later ↦ elim (head_or_tail x y xs (h.all y (All-head P y ys k.only))) [
          | inl same ↦ same
          | inr after ↦ absurd (never_before_itself (numbers x)
              (before_trans (numbers x) (numbers y) (numbers x) (before_rest x xs y h.rising after) (before_rest y ys x k.rising later)))
        ]
      ]
