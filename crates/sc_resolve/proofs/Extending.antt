-- How lists grow by the first things of which something holds.
use Rattle.std.proofs.Common.{◌≡◌, ◌∙◌, sym, ap, subst, ℕ, ◌+◌, ◌-◌, ◌<◌, ◌≤◌, ◌⊎◌, inl, inr, List, [], ◌∷◌, ◌++◌, length, append_assoc, length-append, arith}
use Rattle.std.specs.List.{Contains, All}
use Rattle.std.proofs.lemmas.List.{append-nil}
use Rattle.std.proofs.lemmas.List.Elements.{All-append}
use Rattle.sc_core_rules.specs.Order.{IsBefore}
use Rattle.sc_core_rules.proofs.NestLaws.{pairs_append}
use Rattle.sc_core_rules.proofs.FilterLaws.{in_first, in_second}
use Rattle.sc_core_rules.proofs.Enumerations.{all_of_one, pairs_of_one}
use Rattle.sc_resolve.specs.Extending.{Extends, Below}

abbrev pub Rising : {X : Type 0} → (X → List ℕ) → (ℕ → X → Type 0) → Type 0
Rising {X} numbers At = (j k : ℕ) (x y : X) → j < k → At j x → At k y → IsBefore (numbers x) (numbers y)

at_once : {X : Type 0} (P : X → Type 0) (xs : List X) (x : X) → All P xs → Contains xs x → P x
at_once P xs x all h = subst P h.2 (all h.0 x h.1)

after_none : {X : Type 0} (xs ys : List X) (P : X → Type 0) → length ys ≤ 0 → All P xs → All P (xs ++ ys)
after_none xs [] P none h = subst (All P) (sym (append-nil xs)) h
after_none xs (y ∷ ys) P none h = absurd (omega arith)

module _ {X : Type 0} (numbers : X → List ℕ) (limit : ℕ) where
  pub nothing : (P : X → Type 0) (xs : List X) → ((x : X) → ¬ P x) → Extends numbers P limit xs xs
  nothing P xs none = record {
    found = [];
    grown = sym (append-nil xs);
    first = record { rising = λ i j d less within. absurd (omega arith); only = λ k d h. absurd (omega arith); no_more = omega arith; first = λ x h. absurd (none x h) };
  }

  pub full : (P : X → Type 0) (xs : List X) → limit ≤ length xs → Extends numbers P limit xs xs
  full P xs h = record {
    found = [];
    grown = sym (append-nil xs);
    first = record { rising = λ i j d less within. absurd (omega arith); only = λ k d h. absurd (omega arith); no_more = omega arith; first = λ x k. inr (omega arith, λ k d h. absurd (omega arith)) };
  }

  pub one : (P : X → Type 0) (xs ys : List X) (x : X) → length xs < limit → ys ≡ xs ++ x ∷ [] → P x → ((y : X) → P y → x ≡ y) → Extends numbers P limit xs ys
  one P xs ys x room e p only_one = record {
    found = x ∷ [];
    grown = e;
    first = record { rising = pairs_of_one (λ x y. IsBefore (numbers x) (numbers y)) x; only = all_of_one P x p; no_more = omega arith; first = λ y h. inl (0, omega arith, only_one y h) };
  }

  pub same : (P Q : X → Type 0) (xs ys : List X) → Extends numbers P limit xs ys → ((x : X) → P x → Q x) → ((x : X) → Q x → P x) → Extends numbers Q limit xs ys
  same P Q xs ys h to from = record {
    found = h.found;
    grown = h.grown;
    first = record { rising = h.first.rising; only = λ k d less. to _ (h.first.only k d less); no_more = h.first.no_more; first = λ x q. h.first.first x (from x q) };
  }

  module _ (P Q : X → Type 0) (between : (x y : X) → P x → Q y → IsBefore (numbers x) (numbers y)) where
    abbrev Either : X → Type 0
    Either x = P x ⊎ Q x

    pub both : (xs ys zs : List X) → Extends numbers P limit xs ys → Extends numbers Q limit ys zs → Extends numbers Either limit xs zs
    both xs ys zs h k = record {
      found = h.found ++ k.found;
      grown = k.grown ∙ ap (λ l. l ++ k.found) h.grown ∙ append_assoc xs h.found k.found;
      first = record {
        rising = pairs_append (λ x y. IsBefore (numbers x) (numbers y)) h.found k.found h.first.rising k.first.rising
            (λ x y a b. between x y (at_once P h.found x h.first.only a) (at_once Q k.found y k.first.only b));
        only = All-append Either h.found k.found (λ i d less. inl (h.first.only i d less)) (λ i d less. inr (k.first.only i d less));
        no_more = omega (arith, lengths, sums, h.first.no_more, k.first.no_more);
        first = λ x e. by x e;
      };
    }
      where
        lengths : length ys ≡ length xs + length h.found
        lengths = ap length h.grown ∙ length-append xs h.found

        sums : length (h.found ++ k.found) ≡ length h.found + length k.found
        sums = length-append h.found k.found

        by : (x : X) → Either x → Contains (h.found ++ k.found) x ⊎ ((length (h.found ++ k.found) ≡ limit - length xs) × All (λ y. IsBefore (numbers y) (numbers x)) (h.found ++ k.found))
        by x (inl p) = of_first (h.first.first x p)
          where
            of_first : Contains h.found x ⊎ ((length h.found ≡ limit - length xs) × All (λ y. IsBefore (numbers y) (numbers x)) h.found)
                → Contains (h.found ++ k.found) x ⊎ ((length (h.found ++ k.found) ≡ limit - length xs) × All (λ y. IsBefore (numbers y) (numbers x)) (h.found ++ k.found))
            of_first (inl c) = inl (in_first x h.found k.found c)
            of_first (inr f) = inr (omega (arith, lengths, sums, f.0, k.first.no_more), after_none h.found k.found (λ y. IsBefore (numbers y) (numbers x)) (omega (arith, lengths, f.0, k.first.no_more)) f.1)
        by x (inr q) = of_second (k.first.first x q)
          where
            of_second : Contains k.found x ⊎ ((length k.found ≡ limit - length ys) × All (λ y. IsBefore (numbers y) (numbers x)) k.found)
                → Contains (h.found ++ k.found) x ⊎ ((length (h.found ++ k.found) ≡ limit - length xs) × All (λ y. IsBefore (numbers y) (numbers x)) (h.found ++ k.found))
            of_second (inl c) = inl (in_second x h.found k.found c)
            of_second (inr f) = inr (
              omega (arith, lengths, sums, f.0, h.first.no_more),
              All-append (λ y. IsBefore (numbers y) (numbers x)) h.found k.found (λ i d less. between _ x (h.first.only i d less) q) f.1,
            )

  -- ---- place by place

  module _ (At : ℕ → X → Type 0) (rise : Rising numbers At) where
    pub begins : (xs : List X) → Extends numbers (Below At 0) limit xs xs
    begins xs = nothing (Below At 0) xs (λ x h. omega (arith, h.1))

    pub goes_on : (i : ℕ) (xs ys zs : List X) → Extends numbers (Below At i) limit xs ys → Extends numbers (At i) limit ys zs → Extends numbers (Below At (i + 1)) limit xs zs
    goes_on i xs ys zs h k =
        same (λ x. Below At i x ⊎ At i x) (Below At (i + 1)) xs zs
        (both (Below At i) (At i) (λ x y a b. rise a.0 i x y a.1 a.2 b) xs ys zs h k) to from
      where
        to : (x : X) → Below At i x ⊎ At i x → Below At (i + 1) x
        to x (inl a) = (a.0, omega (arith, a.1), a.2)
        to x (inr b) = (i, omega arith, b)

        from : (x : X) → Below At (i + 1) x → Below At i x ⊎ At i x
        from x (k, less, a) = split (less_or_same k i less)
          where
            less_or_same : (k i : ℕ) → k < i + 1 → (k < i) ⊎ (k ≡ i)
            less_or_same k i h = grind arith

            split : (k < i) ⊎ (k ≡ i) → Below At i x ⊎ At i x
            split (inl h) = inl (k, h, a)
            split (inr e) = inr (subst (λ j. At j x) e a)

    abbrev From : ℕ → ℕ → X → Type 0
    From i n x = (k : ℕ) × (i ≤ k) × (k < n) × At k x

    -- the rest finds no room
    pub stops : (i n : ℕ) (xs ys : List X) → Extends numbers (Below At i) limit xs ys → limit ≤ length ys → i ≤ n → Extends numbers (Below At n) limit xs ys
    stops i n xs ys h no_room short =
        same (λ x. Below At i x ⊎ From i n x) (Below At n) xs ys
        (both (Below At i) (From i n) (λ x y a b. rise a.0 b.0 x y (omega (arith, a.1, b.1)) a.2 b.3) xs ys ys h (full (From i n) ys no_room)) to from
      where
        to : (x : X) → Below At i x ⊎ From i n x → Below At n x
        to x (inl a) = (a.0, omega (arith, a.1), a.2)
        to x (inr b) = (b.0, b.2, b.3)

        from : (x : X) → Below At n x → Below At i x ⊎ From i n x
        from x (k, less, a) = split (less_or_not k i)
          where
            less_or_not : (k i : ℕ) → (k < i) ⊎ (i ≤ k)
            less_or_not k i = grind arith

            split : (k < i) ⊎ (i ≤ k) → Below At i x ⊎ From i n x
            split (inl h) = inl (k, h, a)
            split (inr h) = inr (k, h, less, a)
