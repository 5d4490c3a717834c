-- The instances that are listed are all instances in order.
use Rattle.std.proofs.Common.{◌≡◌, ◌∙◌, sym, ap, subst, refl, ℕ, ◌+◌, ◌^◌, ◌<◌, ◌≤◌, ◌⊎◌, inl, inr, List, [], ◌∷◌, ◌++◌, length, slice_get, Option, Some, None, IsSomeAnd, add-one}
use Rattle.std.specs.List.{All}
use Rattle.sc_term.specs.declared.Clause.{Clause}
use Rattle.sc_term.specs.Clause.{width}
use Rattle.sc_cells.specs.declared.instances.GroundInstance.{GroundInstance}
use Rattle.sc_interp.specs.Structure.{place_of}
use Rattle.sc_cells.specs.Order.{IsBefore, AreInOrder}
use Rattle.sc_cells.specs.Ground.{IsInstance, AreInstances, instance_numbers}
use Rattle.sc_cells.specs.Listing.{digits, in_turn, instance_with, instances_of, instances_if, instances_at, all_instances}
use Rattle.sc_cells.proofs.DigitLaws.{digits_length, digits_below, place_of_digits, digits_of_place, place_below, before_by_place}
use Rattle.sc_cells.proofs.OrderLaws.{nothing_in_order, one_in_order, in_order_of, turns_in_order}
use Rattle.sc_cells.proofs.CellLaws.{some_below}

-- ---- the instances of one clause

-- an instance of a clause at the place that has so many variables
pub record IsOf (size place wide : ℕ) (i : GroundInstance) : Type 0 where
  pub of : i.place ≡ place
  pub long : length i.values ≡ wide
  pub elements : All (λ v. v < size) i.values

abbrev number : ℕ → GroundInstance → ℕ
number size i = place_of size i.values

module _ (size place wide : ℕ) (some : 1 ≤ size) where
  is_with : (n : ℕ) (x : GroundInstance) → IsOf size place wide x → number size x ≡ n → x ≡ instance_with size place wide n
  is_with n x h at =
      let values : x.values ≡ digits size wide n = sym (digits_of_place size wide x.values h.long h.elements) ∙ ap (digits size wide) at in
      λ i. record { place = h.of i; values = values i }

  with_number : (n : ℕ) → n < size ^ wide → AreInOrder (λ x. []) (λ x. IsOf size place wide x × (number size x ≡ n)) (instance_with size place wide n ∷ [])
  with_number n lt =
      one_in_order (λ x. []) (λ x. IsOf size place wide x × (number size x ≡ n)) (instance_with size place wide n)
      (record { of = refl; long = digits_length size wide n; elements = digits_below size wide n some }, place_of_digits size wide n some lt)
      (λ y h. is_with n y h.0 h.1)

  pub clause_in_order : AreInOrder (λ x. number size x ∷ []) (IsOf size place wide) (in_turn (λ n. instance_with size place wide n ∷ []) (size ^ wide))
  clause_in_order =
      in_order_of (λ x. number size x ∷ []) (λ x. number size x ∷ []) (λ x. IsOf size place wide x × (number size x < size ^ wide)) (IsOf size place wide)
      (λ x h. h.0)
      (λ x h. (h, subst (λ n. number size x < size ^ n) h.long (place_below size x.values h.elements)))
      (λ x y p q h. h) _
      (turns_in_order (number size) (λ x. []) (IsOf size place wide) (λ n. instance_with size place wide n ∷ []) (size ^ wide) with_number)

-- ---- those of all clauses

same_width : (o : Option Clause) (m n : ℕ) → IsSomeAnd o (λ c. m ≡ width c) → IsSomeAnd o (λ c. n ≡ width c) → m ≡ n
same_width None m n h k = absurd h
same_width (Some c) m n h k = h ∙ sym k

module _ (clauses : List Clause) (size : ℕ) (some : 1 ≤ size) where
  abbrev numbers : GroundInstance → List ℕ
  numbers x = number size x ∷ []

  at_clause : (k : ℕ) → AreInOrder numbers (λ x. IsInstance clauses size x × (x.place ≡ k)) (instances_at clauses size k)
  at_clause k = there (slice_get clauses k) refl
    where
      there : (o : Option Clause) → slice_get clauses k ≡ o → AreInOrder numbers (λ x. IsInstance clauses size x × (x.place ≡ k)) (instances_if size k o)
      there None e = nothing_in_order numbers (λ x. IsInstance clauses size x × (x.place ≡ k))
          (λ x h. subst (λ o. IsSomeAnd o (λ c. length x.values ≡ width c)) (ap (slice_get clauses) h.1 ∙ e) h.0.0)
      there (Some c) e =
          in_order_of numbers numbers (IsOf size k (width c)) (λ x. IsInstance clauses size x × (x.place ≡ k))
          (λ x h. ((subst (λ o. IsSomeAnd o (λ c. length x.values ≡ width c)) (sym (ap (slice_get clauses) h.of ∙ e)) h.long, h.elements), h.of))
          (λ x h. record {
            of = h.1;
            long = subst (λ o. IsSomeAnd o (λ c. length x.values ≡ width c)) (ap (slice_get clauses) h.1 ∙ e) h.0.0;
            elements = h.0.1;
          })
          (λ x y p q h. h) _ (clause_in_order size k (width c) some)

  by_values : (x y : GroundInstance) → IsInstance clauses size x → IsInstance clauses size y
      → IsBefore (x.place ∷ numbers x) (y.place ∷ numbers y) → IsBefore (instance_numbers x) (instance_numbers y)
  by_values x y p q (inl h) = inl h
  by_values x y p q (inr h) = inr (h.0, second h.1)
    where
      second : (number size x < number size y) ⊎ ((number size x ≡ number size y) × ⊥) → IsBefore x.values y.values
      second (inl k) =
          before_by_place size x.values y.values
          (same_width (slice_get clauses y.place) _ _ (subst (λ n. IsSomeAnd (slice_get clauses n) (λ c. length x.values ≡ width c)) h.0 p.0) q.0) q.1 k
      second (inr k) = absurd k.1

  pub instances_in_order : AreInstances clauses size (all_instances clauses size)
  instances_in_order =
      in_order_of (λ x. x.place ∷ numbers x) instance_numbers (λ x. IsInstance clauses size x × (x.place < length clauses)) (IsInstance clauses size)
      (λ x h. h.0)
      (λ x h. (h, some_below clauses x.place _ h.0))
      (λ x y p q h. by_values x y p.0 q.0 h) _
      (turns_in_order (λ x. x.place) numbers (IsInstance clauses size) (instances_at clauses size) (length clauses) (λ k lt. at_clause k))

-- ---- listed one after another

-- the instances of one clause more
pub clause_turn : (clauses : List Clause) (size place : ℕ) (c : Clause) (old new : List GroundInstance) → slice_get clauses place ≡ Some c
    → old ≡ in_turn (instances_at clauses size) place → new ≡ old ++ instances_of size place c → new ≡ in_turn (instances_at clauses size) (place + 1)
clause_turn clauses size place c old new there e is =
    rw add-one (is ∙ (λ i. e i ++ instances_if size place (sym there i)))
