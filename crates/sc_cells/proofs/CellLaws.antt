-- The entries that are listed are the cells in order.
use Rattle.std.proofs.Common.{◌≡◌, ◌∙◌, sym, ap, subst, refl, ℕ, zero, suc, ◌+◌, ◌^◌, ◌<◌, ◌≤◌, ◌⊎◌, inl, inr, Bool, true, false, if◌then◌else◌, List, [], ◌∷◌, ◌++◌, length, map, max, fold, nat_eq, slice_get, Option, Some, None, IsSomeAnd, add-one, arith}
use Rattle.std.specs.List.{All}
use Rattle.std.proofs.lemmas.Bool.{eqb-true, eqb-false}
use Rattle.std.proofs.lemmas.List.{map-append, append_assoc}
use Rattle.std.proofs.lemmas.List.Elements.{All-head, All-tail}
use Rattle.sc_term.specs.Term.{largest}
use Rattle.sc_term.specs.declared.symbol.Symbol.{Symbol}
use Rattle.sc_cells.specs.declared.cells.Cell.{Cell}
use Rattle.sc_interp.specs.Structure.{place_of}
use Rattle.sc_cells.specs.Order.{IsBefore, AreInOrder}
use Rattle.sc_cells.specs.Cells.{Entry, IsCell, AreCells, cell_numbers, cell_at}
use Rattle.sc_cells.specs.Listing.{digits, in_turn, entry_where, symbol_entries, entries_if, entries_at, entries_with, all_entries}
use Rattle.sc_cells.proofs.DigitLaws.{digits_length, digits_below, place_of_digits, digits_of_place, place_below, before_by_place}
use Rattle.sc_cells.proofs.OrderLaws.{nothing_in_order, one_in_order, in_order_of, turns_in_order}

eqb_same : (n : ℕ) → nat_eq n n ≡ true
eqb_same n = by (nat_eq n n) refl
  where
    by : (b : Bool) → nat_eq n n ≡ b → nat_eq n n ≡ true
    by true e = e
    by false e = absurd (eqb-false n n e refl)

-- ---- the entries of one symbol

-- an entry of the symbol of that arity, with that greatest argument
pub record IsOf (size greatest symbol arity : ℕ) (e : Entry) : Type 0 where
  pub of : e.symbol ≡ symbol
  pub long : length e.indices ≡ arity
  pub elements : All (λ i. i < size) e.indices
  pub greatest_is : largest e.indices ≡ greatest

module _ (size greatest symbol arity : ℕ) (some : 1 ≤ size) where
  abbrev place : Entry → ℕ
  place e = place_of size e.indices

  abbrev here : ℕ → Entry
  here p = record { symbol = symbol; indices = digits size arity p }

  is_here : (p : ℕ) (e : Entry) → IsOf size greatest symbol arity e → place e ≡ p → e ≡ here p
  is_here p e h at =
      let indices : e.indices ≡ digits size arity p = sym (digits_of_place size arity e.indices h.long h.elements) ∙ ap (digits size arity) at in
      λ i. record { symbol = h.of i; indices = indices i }

  at_place : (p : ℕ) → p < size ^ arity → AreInOrder (λ e. []) (λ e. IsOf size greatest symbol arity e × (place e ≡ p)) (entry_where size greatest symbol arity p)
  at_place p lt = by (nat_eq (largest (digits size arity p)) greatest) refl
    where
      by : (b : Bool) → nat_eq (largest (digits size arity p)) greatest ≡ b
          → AreInOrder (λ e. []) (λ e. IsOf size greatest symbol arity e × (place e ≡ p)) (if b then here p ∷ [] else [])
      by true e = one_in_order (λ e. []) (λ e. IsOf size greatest symbol arity e × (place e ≡ p)) (here p) (
        record { of = refl; long = digits_length size arity p; elements = digits_below size arity p some; greatest_is = eqb-true _ greatest e },
        place_of_digits size arity p some lt,
      )
          (λ y h. is_here p y h.0 h.1)
      by false e = nothing_in_order (λ e. []) (λ e. IsOf size greatest symbol arity e × (place e ≡ p))
          (λ y h. eqb-false _ greatest e (ap (λ (x : Entry). largest x.indices) (sym (is_here p y h.0 h.1)) ∙ h.0.greatest_is))

  pub symbol_in_order : AreInOrder (λ e. place e ∷ []) (IsOf size greatest symbol arity) (symbol_entries size greatest symbol arity)
  symbol_in_order =
      in_order_of (λ e. place e ∷ []) (λ e. place e ∷ []) (λ e. IsOf size greatest symbol arity e × (place e < size ^ arity)) (IsOf size greatest symbol arity)
      (λ e h. h.0)
      (λ e h. (h, subst (λ n. place e < size ^ n) h.long (place_below size e.indices h.elements)))
      (λ x y p q h. h) _
      (turns_in_order place (λ e. []) (IsOf size greatest symbol arity) (entry_where size greatest symbol arity) (size ^ arity) at_place)

-- ---- those of all symbols

pub some_below : {X : Type 0} (xs : List X) (i : ℕ) (P : X → Type 0) → IsSomeAnd (slice_get xs i) P → i < length xs
some_below [] i P h = absurd h
some_below (x ∷ xs) zero P h = omega arith
some_below (x ∷ xs) (suc i) P h = omega (arith, some_below xs i P h)

same_arity : (o : Option Symbol) (m n : ℕ) → IsSomeAnd o (λ s. m ≡ s.arity) → IsSomeAnd o (λ s. n ≡ s.arity) → m ≡ n
same_arity None m n h k = absurd h
same_arity (Some s) m n h k = h ∙ sym k

largest_below : (size a : ℕ) (ns : List ℕ) → a < size → All (λ n. n < size) ns → fold max a ns < size
largest_below size a [] h all = h
largest_below size a (n ∷ ns) h all =
    largest_below size (max a n) ns (omega (arith, h, All-head (λ n. n < size) n ns all)) (All-tail (λ n. n < size) n ns all)

module _ (sig : List Symbol) (size : ℕ) (some : 1 ≤ size) where
  abbrev IsWith : ℕ → Entry → Type 0
  IsWith greatest e = IsCell sig size e × (largest e.indices ≡ greatest)

  abbrev placed : Entry → List ℕ
  placed e = place_of size e.indices ∷ []

  at_symbol : (greatest k : ℕ) → AreInOrder placed (λ e. IsWith greatest e × (e.symbol ≡ k)) (entries_at sig size greatest k)
  at_symbol greatest k = by (nat_eq k 0) refl
    where
      there : (o : Option Symbol) → slice_get sig k ≡ o → 0 < k → AreInOrder placed (λ e. IsWith greatest e × (e.symbol ≡ k)) (entries_if size greatest k o)
      there None e more = nothing_in_order placed (λ e. IsWith greatest e × (e.symbol ≡ k))
          (λ x h. subst (λ o. IsSomeAnd o (λ s. length x.indices ≡ s.arity)) (ap (slice_get sig) h.1 ∙ e) h.0.0.1)
      there (Some s) e more =
          in_order_of placed placed (IsOf size greatest k s.arity) (λ e. IsWith greatest e × (e.symbol ≡ k))
          (λ x h. (((omega (arith, h.of), subst (λ o. IsSomeAnd o (λ s. length x.indices ≡ s.arity)) (sym (ap (slice_get sig) h.of ∙ e)) h.long, h.elements), h.greatest_is), h.of))
          (λ x h. record {
            of = h.1;
            long = subst (λ o. IsSomeAnd o (λ s. length x.indices ≡ s.arity)) (ap (slice_get sig) h.1 ∙ e) h.0.0.1;
            elements = h.0.0.2;
            greatest_is = h.0.1;
          })
          (λ x y p q h. h) _ (symbol_in_order size greatest k s.arity some)

      by : (b : Bool) → nat_eq k 0 ≡ b → AreInOrder placed (λ e. IsWith greatest e × (e.symbol ≡ k)) (if b then [] else entries_if size greatest k (slice_get sig k))
      by true e = nothing_in_order placed (λ e. IsWith greatest e × (e.symbol ≡ k)) (λ x h. omega (arith, h.0.0.0, h.1, eqb-true k 0 e))
      by false e = there (slice_get sig k) refl (omega (arith, eqb-false k 0 e))

  with_in_order : (greatest : ℕ) → AreInOrder (λ e. e.symbol ∷ placed e) (IsWith greatest) (entries_with sig size greatest)
  with_in_order greatest =
      in_order_of (λ e. e.symbol ∷ placed e) (λ e. e.symbol ∷ placed e) (λ e. IsWith greatest e × (e.symbol < length sig)) (IsWith greatest)
      (λ x h. h.0)
      (λ x h. (h, some_below sig x.symbol _ h.0.1))
      (λ x y p q h. h) _
      (turns_in_order (λ e. e.symbol) placed (IsWith greatest) (entries_at sig size greatest) (length sig) (λ k lt. at_symbol greatest k))

  by_indices : (x y : Entry) → IsCell sig size x → IsCell sig size y
      → IsBefore (largest x.indices ∷ x.symbol ∷ placed x) (largest y.indices ∷ y.symbol ∷ placed y) → IsBefore (cell_numbers x) (cell_numbers y)
  by_indices x y p q (inl h) = inl h
  by_indices x y p q (inr h) = inr (h.0, second h.1)
    where
      third : x.symbol ≡ y.symbol → (place_of size x.indices < place_of size y.indices) ⊎ ((place_of size x.indices ≡ place_of size y.indices) × ⊥) → IsBefore x.indices y.indices
      third same (inl k) =
          before_by_place size x.indices y.indices
          (same_arity (slice_get sig y.symbol) _ _ (subst (λ n. IsSomeAnd (slice_get sig n) (λ s. length x.indices ≡ s.arity)) same p.1) q.1) q.2 k
      third same (inr k) = absurd k.1

      second : IsBefore (x.symbol ∷ placed x) (y.symbol ∷ placed y) → IsBefore (x.symbol ∷ x.indices) (y.symbol ∷ y.indices)
      second (inl k) = inl k
      second (inr k) = inr (k.0, third k.0 k.1)

  pub cells_in_order : AreCells sig size (all_entries sig size)
  cells_in_order =
      in_order_of (λ e. largest e.indices ∷ e.symbol ∷ placed e) cell_numbers (λ e. IsCell sig size e × (largest e.indices < size)) (IsCell sig size)
      (λ x h. h.0)
      (λ x h. (h, largest_below size 0 x.indices (omega arith) h.2))
      (λ x y p q h. by_indices x y p.0 q.0 h) _
      (turns_in_order (λ e. largest e.indices) (λ e. e.symbol ∷ placed e) (IsCell sig size) (entries_with sig size) size (λ k lt. with_in_order k))

-- ---- listed one after another

abbrev cell_with : ℕ → ℕ → Cell
cell_with symbol place = record { sym = record { 0 = symbol }; place = place }

-- one place more
pub place_more : (size greatest symbol arity place : ℕ) (before old new : List Cell) → 1 ≤ size → place < size ^ arity
    → old ≡ before ++ map (cell_at size) (in_turn (entry_where size greatest symbol arity) place)
    → new ≡ old ++ (if nat_eq (largest (digits size arity place)) greatest then record { sym = record { 0 = symbol }; place = place } ∷ [] else [])
    → new ≡ before ++ map (cell_at size) (in_turn (entry_where size greatest symbol arity) (place + 1))
place_more size greatest symbol arity place before old new some lt e is =
    rw add-one (is ∙ (λ i. e i ++ one (nat_eq (largest (digits size arity place)) greatest) i) ∙ append_assoc before _ _
    ∙ ap (λ l. before ++ l) (sym (map-append (cell_at size) (in_turn (entry_where size greatest symbol arity) place) (entry_where size greatest symbol arity place))))
  where
    one : (b : Bool) → (if b then record { sym = record { 0 = symbol }; place = place } ∷ [] else [])
        ≡ map (cell_at size) (if b then record { symbol = symbol; indices = digits size arity place } ∷ [] else [])
    one true = ap (λ (n : ℕ). cell_with symbol n ∷ []) (sym (place_of_digits size arity place some lt))
    one false = refl

-- one list more
pub turn_more : {X Y : Type 0} (f : X → Y) (list : ℕ → List X) (n : ℕ) (before old new : List Y) → old ≡ before ++ map f (in_turn list n) → new ≡ old ++ map f (list n)
    → new ≡ before ++ map f (in_turn list (n + 1))
turn_more f list n before old new e is =
    rw add-one (is ∙ ap (λ l. l ++ map f (list n)) e ∙ append_assoc before _ _ ∙ ap (λ l. before ++ l) (sym (map-append f (in_turn list n) (list n))))
