-- Lists that grow by all things of which something holds.
use Rattle.std.proofs.Common.{◌≡◌, ◌∙◌, sym, ap, subst, ℕ, ◌+◌, ◌-◌, ◌<◌, ◌⊎◌, inl, inr, List, [], length, length-append, arith}
use Rattle.std.specs.List.{Contains, All}
use Rattle.sc_core_rules.specs.Order.{IsBefore, AreInOrder}
use Rattle.sc_resolve.specs.Extending.{Extends, Below}
use Rattle.sc_resolve.proofs.Extending.{Rising, goes_on}

module _ {X : Type 0} (numbers : X → List ℕ) where
  lengths : (P : X → Type 0) (n : ℕ) (xs ys : List X) (h : Extends numbers P n xs ys) → length ys ≡ length xs + length h.found
  lengths P n xs ys h = ap (λ (l : List X). length l) h.grown ∙ length-append xs h.found

  -- where there is room for one more, all are there
  pub wider : (P : X → Type 0) (n : ℕ) (xs ys : List X) → length ys < n → Extends numbers P (length ys + 1) xs ys → Extends numbers P n xs ys
  wider P n xs ys room h = record {
    found = h.found;
    grown = h.grown;
    first = record { rising = h.first.rising; only = h.first.only; no_more = omega (arith, lengths P (length ys + 1) xs ys h); first = λ x p. by x (h.first.first x p) };
  }
    where
      by : (x : X) → Contains h.found x ⊎ ((length h.found ≡ length ys + 1 - length xs) × All (λ y. IsBefore (numbers y) (numbers x)) h.found)
          → Contains h.found x ⊎ ((length h.found ≡ n - length xs) × All (λ y. IsBefore (numbers y) (numbers x)) h.found)
      by x (inl c) = inl c
      by x (inr f) = absurd (omega (arith, f.0, lengths P (length ys + 1) xs ys h))

  pub further : (At : ℕ → X → Type 0) → Rising numbers At → (i : ℕ) (xs ys zs : List X) → Extends numbers (Below At i) (length ys + 1) xs ys → Extends numbers (At i) (length zs + 1) ys zs
      → Extends numbers (Below At (i + 1)) (length zs + 1) xs zs
  further At rise i xs ys zs h k =
      goes_on numbers (length zs + 1) At rise i xs ys zs (wider (Below At i) (length zs + 1) xs ys (omega (arith, lengths (At i) (length zs + 1) ys zs k)) h) k

  pub in_order : (P : X → Type 0) (xs : List X) → Extends numbers P (length xs + 1) [] xs → AreInOrder numbers P xs
  in_order P xs h = subst (AreInOrder numbers P) (sym h.grown) (record { rising = h.first.rising; only = h.first.only; all = λ x p. by x (h.first.first x p) })
    where
      by : (x : X) → Contains h.found x ⊎ ((length h.found ≡ length xs + 1 - length {A = X} []) × All (λ y. IsBefore (numbers y) (numbers x)) h.found) → Contains h.found x
      by x (inl c) = c
      by x (inr f) = absurd (omega (arith, f.0, lengths P (length xs + 1) [] xs h))
