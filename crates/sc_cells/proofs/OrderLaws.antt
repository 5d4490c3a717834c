-- Lists in order, put together one after another.
use Rattle.std.proofs.Common.{◌≡◌, ◌∙◌, sym, ℕ, zero, suc, ◌<◌, ◌≤◌, ◌⊎◌, inl, inr, List, [], ◌∷◌, ◌++◌, arith}
use Rattle.std.specs.List.{All, AllPairs, Contains}
use Rattle.std.proofs.lemmas.Bool.{cases_lt}
use Rattle.std.proofs.lemmas.List.Kept.{AllPairs-cons}
use Rattle.std.proofs.lemmas.List.Elements.{All-append, All-weaker, All-tail, All-head, All-cons, All-nil, Contains-append_left, Contains-append_right}
use Rattle.sc_cells.specs.Order.{IsBefore, AreInOrder}
use Rattle.sc_cells.specs.Listing.{in_turn}

tail_pairs : {X : Type 0} (R : X → X → Type 0) (x : X) (xs : List X) → AllPairs R (x ∷ xs) → AllPairs R xs
tail_pairs R x xs pairs i j d below within = pairs (suc i) (suc j) d (omega arith) (omega arith)

first_pairs : {X : Type 0} (R : X → X → Type 0) (x : X) (xs : List X) → AllPairs R (x ∷ xs) → All (R x) xs
first_pairs R x xs pairs k d within = pairs zero (suc k) d (omega arith) (omega arith)

-- two lists in a row, where each of the first is related to each of the second
pairs_append : {X : Type 0} (R : X → X → Type 0) (P Q : X → Type 0) → ((x y : X) → P x → Q y → R x y) → (xs ys : List X) → All P xs → All Q ys
    → AllPairs R xs → AllPairs R ys → AllPairs R (xs ++ ys)
pairs_append R P Q between [] ys p q up down = down
pairs_append R P Q between (x ∷ xs) ys p q up down =
    AllPairs-cons R x (xs ++ ys)
    (All-append (R x) xs ys (first_pairs R x xs up) (All-weaker Q (R x) (λ y h. between x y (All-head P x xs p) h) ys q))
    (pairs_append R P Q between xs ys (All-tail P x xs p) q (tail_pairs R x xs up) down)

-- pairs of things of which P holds
pairs_weaker : {X : Type 0} (R S : X → X → Type 0) (P : X → Type 0) → ((x y : X) → P x → P y → R x y → S x y) → (xs : List X) → All P xs → AllPairs R xs → AllPairs S xs
pairs_weaker R S P more xs p up i j d below within = more _ _ (p i d (omega arith)) (p j d within) (up i j d below within)

module _ {X : Type 0} where
  pub nothing_in_order : (numbers : X → List ℕ) (P : X → Type 0) → ((x : X) → P x → ⊥) → AreInOrder numbers P []
  nothing_in_order numbers P none = record {
    rising = λ i j d below within. absurd (omega (arith, within));
    only = All-nil P;
    all = λ x p. absurd (none x p);
  }

  pub one_in_order : (numbers : X → List ℕ) (P : X → Type 0) (x : X) → P x → ((y : X) → P y → y ≡ x) → AreInOrder numbers P (x ∷ [])
  one_in_order numbers P x p one = record {
    rising = λ i j d below within. absurd (omega (arith, within, below));
    only = All-cons P x [] p (All-nil P);
    all = λ y q. (0, omega arith, sym (one y q));
  }

  -- another condition and other numbers, which agree on the things of which the first holds
  pub in_order_of : (numbers others : X → List ℕ) (P Q : X → Type 0) → ((x : X) → P x → Q x) → ((x : X) → Q x → P x)
      → ((x y : X) → P x → P y → IsBefore (numbers x) (numbers y) → IsBefore (others x) (others y)) → (xs : List X) → AreInOrder numbers P xs → AreInOrder others Q xs
  in_order_of numbers others P Q to from more xs h = record {
    rising = pairs_weaker (λ x y. IsBefore (numbers x) (numbers y)) (λ x y. IsBefore (others x) (others y)) P more xs h.only h.rising;
    only = All-weaker P Q to xs h.only;
    all = λ x q. h.all x (from x q);
  }

  append_in_order : (numbers : X → List ℕ) (P Q : X → Type 0) → ((x y : X) → P x → Q y → IsBefore (numbers x) (numbers y)) → (xs ys : List X)
      → AreInOrder numbers P xs → AreInOrder numbers Q ys → AreInOrder numbers (λ x. P x ⊎ Q x) (xs ++ ys)
  append_in_order numbers P Q between xs ys one two = record {
    rising = pairs_append (λ x y. IsBefore (numbers x) (numbers y)) P Q between xs ys one.only two.only one.rising two.rising;
    only = All-append (λ x. P x ⊎ Q x) xs ys (All-weaker P (λ x. P x ⊎ Q x) (λ x p. inl p) xs one.only) (All-weaker Q (λ x. P x ⊎ Q x) (λ x q. inr q) ys two.only);
    all = λ x h. by x h;
  }
    where
      by : (x : X) → P x ⊎ Q x → Contains (xs ++ ys) x
      by x (inl p) = Contains-append_left xs ys x (one.all x p)
      by x (inr q) = Contains-append_right xs ys x (two.all x q)

  -- lists by a key, each in order of further numbers
  pub turns_in_order : (key : X → ℕ) (rest : X → List ℕ) (P : X → Type 0) (list : ℕ → List X) (n : ℕ)
      → ((k : ℕ) → k < n → AreInOrder rest (λ x. P x × (key x ≡ k)) (list k)) → AreInOrder (λ x. key x ∷ rest x) (λ x. P x × (key x < n)) (in_turn list n)
  turns_in_order key rest P list zero each = nothing_in_order (λ x. key x ∷ rest x) (λ x. P x × (key x < zero)) (λ x h. omega (arith, h.1))
  turns_in_order key rest P list (suc n) each =
      in_order_of both both (λ x. (P x × (key x < n)) ⊎ (P x × (key x ≡ n))) (λ x. P x × (key x < suc n)) to from (λ x y p q h. h) (in_turn list n ++ list n)
      (append_in_order both (λ x. P x × (key x < n)) (λ x. P x × (key x ≡ n)) (λ x y p q. inl (omega (arith, p.1, q.1))) (in_turn list n) (list n)
      (turns_in_order key rest P list n (λ k lt. each k (omega arith)))
      (in_order_of rest both (λ x. P x × (key x ≡ n)) (λ x. P x × (key x ≡ n)) (λ x h. h) (λ x h. h) (λ x y p q h. inr (p.1 ∙ sym q.1, h)) (list n) (each n (omega arith))))
    where
      both : X → List ℕ
      both x = key x ∷ rest x

      to : (x : X) → (P x × (key x < n)) ⊎ (P x × (key x ≡ n)) → P x × (key x < suc n)
      to x (inl h) = (h.0, omega (arith, h.1))
      to x (inr h) = (h.0, omega (arith, h.1))

      from : (x : X) → P x × (key x < suc n) → (P x × (key x < n)) ⊎ (P x × (key x ≡ n))
      from x h = by (cases_lt (key x) n)
        where
          by : (key x < n) ⊎ (n ≤ key x) → (P x × (key x < n)) ⊎ (P x × (key x ≡ n))
          by (inl k) = inl (h.0, k)
          by (inr k) = inr (h.0, omega (arith, h.1))
