-- Values of all cells make tables.
use Rattle.std.proofs.Common.{◌≡◌, ◌∙◌, sym, ap, subst, refl, ℕ, zero, suc, ◌+◌, ◌^◌, ◌<◌, ◌≤◌, ◌⊎◌, inl, inr, List, [], ◌∷◌, map, drop, length, get_or, Option, Some, None, IsSomeAnd, slice_get, slice_index, arith}
use Rattle.std.specs.Prelude.{unwrap_or}
use Rattle.std.specs.List.{AllZip, AllByRecursion, range_with_len}
use Rattle.std.proofs.lemmas.Bool.{cases_order}
use Rattle.std.proofs.lemmas.List.Elements.{All-get_or, All-from_recursion}
use Rattle.std.proofs.lemmas.List.FromFn.{length-map-range_with_len, get_or-map-range_with_len}
use Rattle.std.proofs.lemmas.Option.{slice_get_within, get_or_from_slice_get}
use Rattle.sc_term.specs.Numbering.{numbered}
use Rattle.sc_term.specs.declared.symbol.Symbol.{Symbol}
use Rattle.sc_interp.specs.declared.table.Table.{Table}
use Rattle.sc_interp.specs.Structure.{Structure, IsStructure, IsTable, IsTableOf, entry_in, place_of}
use Rattle.sc_interp.specs.Structure.{values_below as entries_below}
use Rattle.sc_interp.proofs.ClaimLaws.{numbered_more}
use Rattle.sc_cells.specs.Order.{IsBefore}
use Rattle.sc_cells.specs.Cells.{Entry, IsCell, AreCells, AreValues, cell_numbers, below_of, values_below, given_among}
use Rattle.sc_cells.specs.Listing.{digits}
use Rattle.sc_cells.proofs.DigitLaws.{digits_length, digits_below, digits_of_place, place_below}
use Rattle.sc_find.specs.Models.{Task, AreTablesWith}
use Rattle.sc_find_laws.specs.Meaning.{entry_for}
use Rattle.sc_find_laws.proofs.TableLaws.{among, in_range, at_number, behind_first}

-- ---- the cells differ

not_before : (ns : List ℕ) → IsBefore ns ns → ⊥
not_before [] h = h
not_before (n ∷ ns) (inl h) = omega (arith, h)
not_before (n ∷ ns) (inr h) = not_before ns h.1

one_number : (sig : List Symbol) (size : ℕ) (cells : List Entry) (cell : Entry) (m n : ℕ) → AreCells sig size cells
    → slice_get cells m ≡ Some cell → slice_get cells n ≡ Some cell → m ≡ n
one_number sig size cells cell m n h at_m at_n = by (cases_order m n)
  where
    apart : (i j : ℕ) → slice_get cells i ≡ Some cell → slice_get cells j ≡ Some cell → i < j → ⊥
    apart i j at_i at_j lt =
        let pair = h.rising i j cell lt (slice_get_within cells j cell at_j) in
        not_before (cell_numbers cell)
        (subst (λ (x : Entry). IsBefore (cell_numbers x) (cell_numbers cell)) (get_or_from_slice_get cells i cell cell at_i)
        (subst (λ (x : Entry). IsBefore (cell_numbers (get_or cells i cell)) (cell_numbers x)) (get_or_from_slice_get cells j cell cell at_j) pair))

    by : (m ≡ n) ⊎ ((m < n) ⊎ (n < m)) → m ≡ n
    by (inl e) = e
    by (inr (inl lt)) = absurd (apart m n at_m at_n lt)
    by (inr (inr lt)) = absurd (apart n m at_n at_m lt)

-- ---- the tables

-- the value of the cell, 0 where it is none
abbrev value_for : List Entry → List ℕ → ℕ → List ℕ → ℕ
value_for cells values symbol args = unwrap_or (given_among (record { 0 = symbol }) args cells values) 0

abbrev table_for : ℕ → List Entry → List ℕ → ℕ → Symbol → Table
table_for size cells values k s = record {
  role = s.role;
  arity = s.arity;
  entries = map (λ place. value_for cells values k (digits size s.arity place)) (range_with_len 0 (size ^ s.arity));
}

-- of symbols with the numbers k, k + 1, ..
abbrev tables_from : ℕ → List Entry → List ℕ → ℕ → List Symbol → List Table
tables_from size cells values k [] = []
tables_from size cells values k (s ∷ ss) = table_for size cells values k s ∷ tables_from size cells values (suc k) ss

abbrev pub built : List Symbol → ℕ → List Entry → List ℕ → Structure
built sig size cells values = record { size = size; tables = tables_from size cells values 1 (drop 1 sig) }

from_behind : {X : Type 0} (xs : List X) (i : ℕ) (x : X) → slice_get (drop 1 xs) i ≡ Some x → slice_get xs (suc i) ≡ Some x
from_behind [] i x e = absurd cc
from_behind (y ∷ ys) i x e = e

module _ (size : ℕ) (cells : List Entry) (values : List ℕ) where
  tables_of : (k : ℕ) (ss : List Symbol) → AllZip IsTableOf ss (tables_from size cells values k ss)
  tables_of k [] = tt
  tables_of k (s ∷ ss) = (record { role = refl; arity = refl }, tables_of (suc k) ss)

  table_at : (k : ℕ) (ss : List Symbol) (i : ℕ) (s : Symbol) → slice_get ss i ≡ Some s → slice_get (tables_from size cells values k ss) i ≡ Some (table_for size cells values (k + i) s)
  table_at k [] i s e = absurd cc
  table_at k (z ∷ ss) zero s e =
      let is : z ≡ s = cc in
      let same : k ≡ k + 0 = omega arith in
      λ j. Some (table_for size cells values (same j) (is j))
  table_at k (z ∷ ss) (suc i) s e =
      let same : suc k + i ≡ k + suc i = omega arith in
      table_at (suc k) ss i s e ∙ ap (λ (n : ℕ). Some (table_for size cells values n s)) same

module _ (sig : List Symbol) (size : ℕ) (cells : List Entry) (values : List ℕ) (are_cells : AreCells sig size cells)
    (long : length values ≡ length cells) (are_values : AreValues sig size cells values) (some : 1 ≤ size) where
  value_is : (n : ℕ) (cell : Entry) → slice_get cells n ≡ Some cell → value_for cells values cell.symbol cell.indices ≡ slice_index values n
  value_is n cell e =
      ap (λ (o : Option ℕ). unwrap_or o 0)
      (among (record { 0 = cell.symbol }) cell.indices (slice_index values n) cells values n long
      (λ m at_m. ap (slice_index values) (one_number sig size cells cell n m are_cells e at_m)) e)

  value_below : (cell : Entry) → IsCell sig size cell → value_for cells values cell.symbol cell.indices < values_below sig size cell
  value_below cell h =
      let n = at_number sig size cells values are_cells long are_values cell h in
      subst (λ v. v < values_below sig size cell) (sym (value_is n.0 cell n.1)) (in_range sig size cells values are_cells long are_values n.0 cell n.1)

  is_table : (k : ℕ) (s : Symbol) → slice_get sig k ≡ Some s → 0 < k → IsTable size (table_for size cells values k s)
  is_table k s e more = record { many = many; in_range = each }
    where
      at_place : ℕ → ℕ
      at_place place = value_for cells values k (digits size s.arity place)

      many : length (map at_place (range_with_len 0 (size ^ s.arity))) ≡ size ^ s.arity
      many = length-map-range_with_len at_place 0 (size ^ s.arity)

      each : (i d : ℕ) → i < length (map at_place (range_with_len 0 (size ^ s.arity))) → get_or (map at_place (range_with_len 0 (size ^ s.arity))) i d < entries_below s.role size
      each i d lt =
          let args = digits size s.arity i in
          let here = get_or-map-range_with_len at_place 0 (size ^ s.arity) i i d (subst (λ n. i < n) many lt) (omega arith) in
          let cell : IsCell sig size (record { symbol = k; indices = args }) = (
            more,
            subst (λ o. IsSomeAnd o (λ x. length args ≡ x.arity)) (sym e) (digits_length size s.arity i),
            digits_below size s.arity i some,
          ) in
          subst (λ v. v < entries_below s.role size) (sym here) (subst (λ o. at_place i < below_of size o) e (value_below (record { symbol = k; indices = args }) cell))

  each_is_table : (k : ℕ) (ss : List Symbol) → ((i n : ℕ) (s : Symbol) → slice_get ss i ≡ Some s → n ≡ k + i → slice_get sig n ≡ Some s) → 0 < k
      → AllByRecursion (IsTable size) (tables_from size cells values k ss)
  each_is_table k [] h more = tt
  each_is_table k (s ∷ ss) h more = (
    is_table k s (h 0 k s refl (omega arith)) more,
    each_is_table (suc k) ss (λ i n x e is. h (suc i) n x e (omega (arith, is))) (omega arith),
  )

  numbers : (i n : ℕ) (s : Symbol) → slice_get (drop 1 sig) i ≡ Some s → n ≡ 1 + i → slice_get sig n ≡ Some s
  numbers i n s e is = let same : n ≡ suc i = omega (arith, is) in ap (slice_get sig) same ∙ from_behind sig i s e

  pub built_structure : size ≤ 8 → IsStructure (built sig size cells values)
  built_structure small = record {
    not_empty = some;
    small = small;
    each = All-from_recursion (IsTable size) (tables_from size cells values 1 (drop 1 sig)) (each_is_table 1 (drop 1 sig) numbers (omega arith));
  }

  built_entry : (n : ℕ) (cell : Entry) → slice_get cells n ≡ Some cell → IsCell sig size cell → entry_for (built sig size cells values) cell ≡ slice_index values n
  built_entry n cell at_n h = by cell.symbol refl (slice_get sig cell.symbol) refl
    where
      tables : List Table
      tables = tables_from size cells values 1 (drop 1 sig)

      at_table : (i : ℕ) (s : Symbol) → cell.symbol ≡ suc i → slice_get sig cell.symbol ≡ Some s → entry_for (built sig size cells values) cell ≡ slice_index values n
      at_table i s is e =
          let found = table_at size cells values 1 (drop 1 sig) i s (behind_first sig i s (ap (slice_get sig) (sym is) ∙ e)) in
          let one : suc i ≡ i + 1 = omega arith in
          let back : 1 + i ≡ cell.symbol = omega (arith, is) in
          let at : numbered tables cell.symbol ≡ Some (table_for size cells values cell.symbol s)
          = ap (numbered tables) (is ∙ one) ∙ numbered_more tables i (table_for size cells values (1 + i) s) found
          ∙ ap (λ (m : ℕ). Some (table_for size cells values m s)) back in
          let place = place_of size cell.indices in
          let arity : length cell.indices ≡ s.arity = subst (λ o. IsSomeAnd o (λ s. length cell.indices ≡ s.arity)) e h.1 in
          let within : place < size ^ s.arity = subst (λ m. place < size ^ m) arity (place_below size cell.indices h.2) in
          let at_place = λ (p : ℕ). value_for cells values cell.symbol (digits size s.arity p) in
          ap (λ o. entry_in o place) at
          ∙ get_or-map-range_with_len at_place 0 (size ^ s.arity) place place 0 within (omega arith)
          ∙ ap (value_for cells values cell.symbol) (digits_of_place size s.arity cell.indices arity h.2) ∙ value_is n cell at_n

      by : (k : ℕ) → cell.symbol ≡ k → (o : Option Symbol) → slice_get sig cell.symbol ≡ o → entry_for (built sig size cells values) cell ≡ slice_index values n
      by zero is o e = absurd (omega (arith, h.0, is))
      by (suc i) is None e = absurd (subst (λ o. IsSomeAnd o (λ s. length cell.indices ≡ s.arity)) e h.1)
      by (suc i) is (Some s) e = at_table i s is e

  pub built_each : (k : ℕ) (cell : Entry) → slice_get cells k ≡ Some cell → entry_for (built sig size cells values) cell ≡ slice_index values k
  built_each k cell e =
      built_entry k cell e
      (subst (IsCell sig size) (get_or_from_slice_get cells k cell cell e) (All-get_or (IsCell sig size) cells k cell (slice_get_within cells k cell e) are_cells.only))

-- tables that have the values
pub built_tables : (task : Task) (cells : List Entry) (values : List ℕ) → AreCells task.sig task.size cells → length values ≡ length cells
    → AreValues task.sig task.size cells values → 1 ≤ task.size → AreTablesWith task cells values (built task.sig task.size cells values)
built_tables task cells values are_cells long are_values some = record {
  over = tables_of task.size cells values 1 (drop 1 task.sig);
  size = refl;
  each = built_each task.sig task.size cells values are_cells long are_values some;
}
