-- Values of all cells and tables that have them: from values to tables, and from tables to values.
use Rattle.std.proofs.Common.{◌≡◌, ◌∙◌, sym, ap, subst, refl, ℕ, zero, suc, ◌+◌, ◌^◌, ◌<◌, Bool, true, false, if◌then◌else◌, List, [], ◌∷◌, take, drop, length, nat_eq, Option, Some, None, IsSomeAnd, slice_get, slice_index, arith}
use Rattle.std.specs.List.{All, AllZip, AllByRecursion}
use Rattle.std.proofs.lemmas.Bool.{eqb-true, eq-eqb}
use Rattle.std.proofs.lemmas.List.{length-map, take_all}
use Rattle.std.proofs.lemmas.List.Elements.{All-get_or, recursion_from_All}
use Rattle.std.proofs.lemmas.Option.{slice_get-get_or, slice_get_within, get_or_from_slice_get, slice_get-map}
use Rattle.sc_term.specs.declared.SymId.{SymId}
use Rattle.sc_term.specs.Numbering.{numbered}
use Rattle.sc_term.specs.declared.symbol.Symbol.{Symbol}
use Rattle.sc_interp.specs.Structure.{Structure, IsStructure, IsTable, IsTableOf, AreTablesOf, entry, entry_in, place_of}
use Rattle.sc_interp.specs.Structure.{values_below as entries_below}
use Rattle.sc_interp.proofs.ClaimLaws.{numbered_more}
use Rattle.sc_cells.specs.Cells.{Entry, IsCell, AreCells, AreValues, below_of, values_below, same_numbers, is_cell_of, given_among}
use Rattle.sc_cells.proofs.DigitLaws.{place_below}
use Rattle.sc_input_rules.proofs.Booleans.{parts_hold, both_hold}
use Rattle.sc_find_laws.specs.Meaning.{entry_for, entries_for}
use Rattle.sc_find_laws.proofs.ValueLaws.{HasValues, cell_of}

-- ---- the cell of a symbol and arguments

same_lists : (ms ns : List ℕ) → same_numbers ms ns ≡ true → ms ≡ ns
same_lists [] [] e = refl
same_lists [] (n ∷ ns) e = absurd cc
same_lists (m ∷ ms) [] e = absurd cc
same_lists (m ∷ ms) (n ∷ ns) e =
    let parts = parts_hold (nat_eq m n) (same_numbers ms ns) e in
    let first : m ≡ n = eqb-true m n parts.0 in
    let rest : ms ≡ ns = same_lists ms ns parts.1 in
    λ i. first i ∷ rest i

itself : (ns : List ℕ) → same_numbers ns ns ≡ true
itself [] = refl
itself (n ∷ ns) = both_hold (nat_eq n n) (same_numbers ns ns) (eq-eqb n n refl) (itself ns)

is_its_cell : (f : SymId) (args : List ℕ) (cell : Entry) → is_cell_of f args cell ≡ true → cell ≡ cell_of f args
is_its_cell f args cell e =
    let parts = parts_hold (nat_eq f.0 cell.symbol) (same_numbers args cell.indices) e in
    let symbol : f.0 ≡ cell.symbol = eqb-true f.0 cell.symbol parts.0 in
    let indices : args ≡ cell.indices = same_lists args cell.indices parts.1 in
    λ i. record { symbol = sym symbol i; indices = sym indices i }

its_cell : (f : SymId) (args : List ℕ) → is_cell_of f args (cell_of f args) ≡ true
its_cell f args = both_hold (nat_eq f.0 f.0) (same_numbers args args) (eq-eqb f.0 f.0 refl) (itself args)

-- each cell that is the one of f and these arguments has the value v
pub among : (f : SymId) (args : List ℕ) (v : ℕ) (cells : List Entry) (values : List ℕ) (k : ℕ) → length values ≡ length cells
    → ((m : ℕ) → slice_get cells m ≡ Some (cell_of f args) → v ≡ slice_index values m) → slice_get cells k ≡ Some (cell_of f args)
    → given_among f args cells values ≡ Some v
among f args v [] values k long each here = absurd cc
among f args v (c ∷ cs) [] k long each here = absurd (omega arith)
among f args v (c ∷ cs) (w ∷ ws) zero long each here =
    let is : c ≡ cell_of f args = cc in
    ap (λ b. if b then Some w else given_among f args cs ws) (ap (is_cell_of f args) is ∙ its_cell f args) ∙ ap (λ (n : ℕ). Some n) (sym (each 0 here))
among f args v (c ∷ cs) (w ∷ ws) (suc k) long each here =
    by (is_cell_of f args c) refl (among f args v cs ws k (omega arith) (λ m at_m. each (suc m) at_m) here)
  where
    by : (b : Bool) → is_cell_of f args c ≡ b → given_among f args cs ws ≡ Some v → given_among f args (c ∷ cs) (w ∷ ws) ≡ Some v
    by true e rest = ap (λ b. if b then Some w else given_among f args cs ws) e ∙ ap (λ (n : ℕ). Some n) (sym (each 0 (ap (λ (x : Entry). Some x) (is_its_cell f args c e))))
    by false e rest = ap (λ b. if b then Some w else given_among f args cs ws) e ∙ rest

-- tables that have the values in the cells
pub entries_are : (t : Structure) (cells : List Entry) (values : List ℕ) → length values ≡ length cells
    → ((k : ℕ) (cell : Entry) → slice_get cells k ≡ Some cell → entry_for t cell ≡ slice_index values k) → entries_for t cells ≡ values
entries_are t [] [] long each = refl
entries_are t [] (v ∷ vs) long each = absurd (omega arith)
entries_are t (c ∷ cs) [] long each = absurd (omega arith)
entries_are t (c ∷ cs) (v ∷ vs) long each =
    let first : entry_for t c ≡ v = each 0 c refl in
    let rest = entries_are t cs vs (omega arith) (λ k cell e. each (suc k) cell e) in
    λ i. first i ∷ rest i

-- what stands beside an element
beside : {X Y : Type 0} (R : X → Y → Type 0) (xs : List X) (ys : List Y) (i : ℕ) (x : X) → AllZip R xs ys → slice_get xs i ≡ Some x
    → (y : Y) × (slice_get ys i ≡ Some y) × R x y
beside R [] ys i x h e = absurd cc
beside R (z ∷ xs) [] i x h e = absurd h
beside R (z ∷ xs) (y ∷ ys) zero x h e = let is : z ≡ x = cc in (y, refl, subst (λ w. R w y) is h.0)
beside R (z ∷ xs) (y ∷ ys) (suc i) x h e = beside R xs ys i x h.1 e

-- ---- from values to tables

module _ (sig : List Symbol) (size : ℕ) (cells : List Entry) (values : List ℕ) (are_cells : AreCells sig size cells)
    (long : length values ≡ length cells) (are_values : AreValues sig size cells values) where
  pub in_range : (k : ℕ) (cell : Entry) → slice_get cells k ≡ Some cell → slice_index values k < values_below sig size cell
  in_range k cell e =
      let all : take (length values) cells ≡ cells = take_all (length values) cells (omega arith) in
      let zipped : AllZip (λ c v. v < values_below sig size c) cells values = subst (λ cs. AllZip (λ c v. v < values_below sig size c) cs values) all are_values in
      let here = beside (λ c v. v < values_below sig size c) cells values k cell zipped e in
      subst (λ v. v < values_below sig size cell) (sym (get_or_from_slice_get values k here.0 0 here.1)) here.2

  pub at_number : (cell : Entry) → IsCell sig size cell → (k : ℕ) × (slice_get cells k ≡ Some cell)
  at_number cell h =
      let there = are_cells.all cell h in
      (there.0, slice_get-get_or cells there.0 cell there.1 ∙ ap (λ (x : Entry). Some x) there.2)

  pub tables_have : (t : Structure) → t.size ≡ size → ((k : ℕ) (cell : Entry) → slice_get cells k ≡ Some cell → entry_for t cell ≡ slice_index values k)
      → HasValues sig size (record { cells = cells; values = values }) t
  tables_have t size_is each = record {
    size_is = size_is;
    given = λ f args h. let n = at_number (cell_of f args) h in among f args (entry t f args) cells values n.0 long (λ m e. each m (cell_of f args) e) n.1;
    below = λ f args h. let n = at_number (cell_of f args) h in
        subst (λ v. v < values_below sig size (cell_of f args)) (sym (each n.0 (cell_of f args) n.1)) (in_range n.0 (cell_of f args) n.1);
  }

-- ---- from tables to values

pub entries_each : (t : Structure) (cells : List Entry) (k : ℕ) (cell : Entry) → slice_get cells k ≡ Some cell → entry_for t cell ≡ slice_index (entries_for t cells) k
entries_each t cells k cell e =
    sym (get_or_from_slice_get (entries_for t cells) k (entry_for t cell) 0 (slice_get-map (entry_for t) cells k ∙ ap (λ (o : Option Entry). elim o [ None ↦ None | Some c ↦ Some (entry_for t c) ]) e))

pub behind_first : {X : Type 0} (xs : List X) (i : ℕ) (x : X) → slice_get xs (suc i) ≡ Some x → slice_get (drop 1 xs) i ≡ Some x
behind_first [] i x e = absurd cc
behind_first (y ∷ ys) i x e = e

module _ (sig : List Symbol) (size : ℕ) (t : Structure) (structure : IsStructure t) (over : AreTablesOf sig t) (size_is : t.size ≡ size) where
  entry_below : (cell : Entry) → IsCell sig size cell → entry_for t cell < values_below sig size cell
  entry_below cell h = by cell.symbol refl (slice_get sig cell.symbol) refl
    where
      long : (o : Option Symbol) (s : Symbol) → o ≡ Some s → IsSomeAnd o (λ s. length cell.indices ≡ s.arity) → length cell.indices ≡ s.arity
      long o s e k = subst (λ o. IsSomeAnd o (λ s. length cell.indices ≡ s.arity)) e k

      at_table : (i : ℕ) (s : Symbol) → cell.symbol ≡ suc i → slice_get sig cell.symbol ≡ Some s → entry_for t cell < entries_below s.role size
      at_table i s is e =
          let found = beside IsTableOf (drop 1 sig) t.tables i s over (behind_first sig i s (ap (slice_get sig) (sym is) ∙ e)) in
          let table = found.0 in
          let one : suc i ≡ i + 1 = omega arith in
          let at : numbered t.tables cell.symbol ≡ Some table = ap (numbered t.tables) (is ∙ one) ∙ numbered_more t.tables i table found.1 in
          let place = place_of t.size cell.indices in
          let here : entry_for t cell ≡ slice_index table.entries place = ap (λ o. entry_in o place) at in
          let is_table : IsTable t.size table
          = subst (IsTable t.size) (get_or_from_slice_get t.tables i table table found.1)
          (All-get_or (IsTable t.size) t.tables i table (slice_get_within t.tables i table found.1) structure.each) in
          let wide : length cell.indices ≡ table.arity = long (slice_get sig cell.symbol) s e h.1 ∙ sym found.2.arity in
          let small : place < t.size ^ length cell.indices
          = place_below t.size cell.indices (subst (λ n. All (λ i. i < n) cell.indices) (sym size_is) h.2) in
          let within : place < length table.entries
          = subst (λ n. place < n) (ap (λ n. t.size ^ n) wide ∙ sym is_table.many) small in
          let ranged : slice_index table.entries place < entries_below table.role t.size
          = All-get_or (λ e. e < entries_below table.role t.size) table.entries place 0 within is_table.in_range in
          subst (λ v. v < entries_below s.role size) (sym here)
          (subst (λ n. slice_index table.entries place < n) ((λ j. entries_below (found.2.role j) (size_is j))) ranged)

      by : (n : ℕ) → cell.symbol ≡ n → (o : Option Symbol) → slice_get sig cell.symbol ≡ o → entry_for t cell < values_below sig size cell
      by zero is o e = absurd (omega (arith, h.0))
      by (suc i) is None e = absurd (subst (λ o. IsSomeAnd o (λ s. length cell.indices ≡ s.arity)) e h.1)
      by (suc i) is (Some s) e = subst (λ o. entry_for t cell < below_of size o) (sym e) (at_table i s is e)

  each_below : (cells : List Entry) → AllByRecursion (IsCell sig size) cells → AllZip (λ c v. v < values_below sig size c) cells (entries_for t cells)
  each_below [] h = tt
  each_below (c ∷ cs) h = (entry_below c h.0, each_below cs h.1)

  pub entries_are_values : (cells : List Entry) → AreCells sig size cells → AreValues sig size cells (entries_for t cells)
  entries_are_values cells h =
      let long : length (entries_for t cells) ≡ length cells = length-map cells (entry_for t) in
      let all : take (length (entries_for t cells)) cells ≡ cells = take_all (length (entries_for t cells)) cells (omega arith) in
      subst (λ cs. AllZip (λ c v. v < values_below sig size c) cs (entries_for t cells)) (sym all)
      (each_below cells (recursion_from_All (IsCell sig size) cells h.only))
