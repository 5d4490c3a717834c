-- The first model of a task is one.
use Rattle.std.proofs.Common.{◌≡◌, ◌∙◌, sym, ap, subst, refl, ℕ, suc, ◌^◌, ◌<◌, ◌≤◌, ◌⊎◌, inl, inr, List, [], ◌∷◌, length, drop, Option, Some, IsSomeAnd, slice_get, slice_index, get_or, arith}
use Rattle.std.specs.List.{AllZip, AllByRecursion}
use Rattle.std.proofs.lemmas.Bool.{cases_order}
use Rattle.std.proofs.lemmas.List.{same_lists}
use Rattle.std.proofs.lemmas.List.Elements.{recursion_from_All}
use Rattle.std.proofs.lemmas.Option.{slice_get-get_or, get_or_from_slice_get}
use Rattle.sc_term.specs.declared.symbol.Symbol.{Symbol}
use Rattle.sc_interp.specs.declared.table.Table.{Table}
use Rattle.sc_interp.specs.Structure.{Structure, IsStructure, IsTable, IsTableOf, entry, entry_in, place_of}
use Rattle.sc_cells.specs.Order.{IsBefore}
use Rattle.sc_cells.specs.Cells.{Entry, IsCell, AreCells, cell_numbers}
use Rattle.sc_cells.specs.Listing.{digits}
use Rattle.sc_cells.proofs.DigitLaws.{digits_length, digits_below, place_of_digits}
use Rattle.sc_find.specs.Models.{Task, IsModel, AreTablesWith, IsFirstModel}
use Rattle.sc_find.proofs.OneLaws.{one_order}
use Rattle.sc_core_rules.proofs.NumberLaws.{numbered-suc}

-- ---- values

one_step : (m n : ℕ) (ms ns : List ℕ) → ¬ IsBefore (m ∷ ms) (n ∷ ns) → ¬ IsBefore (n ∷ ns) (m ∷ ms) → ((¬ IsBefore ms ns) → (¬ IsBefore ns ms) → ms ≡ ns)
    → (m ≡ n) ⊎ ((m < n) ⊎ (n < m)) → (m ∷ ms) ≡ (n ∷ ns)
one_step m n ms ns h k rest (inl same) =
    let behind : ms ≡ ns = rest (λ b. h (inr (same, b))) (λ b. k (inr (sym same, b))) in
    λ i. same i ∷ behind i
one_step m n ms ns h k rest (inr (inl less)) = absurd (h (inl less))
one_step m n ms ns h k rest (inr (inr less)) = absurd (k (inl less))

-- of two lists of one length, neither of which comes before the other, there is one
one_list : (ms ns : List ℕ) → length ms ≡ length ns → ¬ IsBefore ms ns → ¬ IsBefore ns ms → ms ≡ ns
one_list [] [] e h k = refl
one_list [] (n ∷ ns) e h k = absurd (omega (arith, e))
one_list (m ∷ ms) [] e h k = absurd (omega (arith, e))
one_list (m ∷ ms) (n ∷ ns) e h k = one_step m n ms ns h k (λ a b. one_list ms ns (omega (arith, e)) a b) (cases_order m n)

-- ---- tables

any_default : (ns : List ℕ) (i d : ℕ) → i < length ns → slice_index ns i ≡ get_or ns i d
any_default ns i d less = get_or_from_slice_get ns i (get_or ns i d) 0 (slice_get-get_or ns i d less)

same_table : (size : ℕ) (s : Symbol) (a b : Table) → IsTableOf s a → IsTableOf s b → IsTable size a → IsTable size b
    → ((place : ℕ) → place < size ^ s.arity → slice_index a.entries place ≡ slice_index b.entries place) → a ≡ b
same_table size s a b h k m n each =
    let role : a.role ≡ b.role = h.role ∙ sym k.role in
    let arity : a.arity ≡ b.arity = h.arity ∙ sym k.arity in
    let long : length a.entries ≡ length b.entries = m.many ∙ ap (λ (r : ℕ). size ^ r) arity ∙ sym n.many in
    let wide : length a.entries ≡ size ^ s.arity = m.many ∙ ap (λ (r : ℕ). size ^ r) h.arity in
    let entries : a.entries ≡ b.entries
    = same_lists a.entries b.entries long
    (λ i d less. sym (any_default a.entries i d less) ∙ each i (subst (λ (r : ℕ). i < r) wide less) ∙ any_default b.entries i d (subst (λ (r : ℕ). i < r) long less)) in
    λ i. record { role = role i; arity = arity i; entries = entries i }

same_tables : (size : ℕ) (ss : List Symbol) (ts us : List Table) → AllZip IsTableOf ss ts → AllZip IsTableOf ss us → AllByRecursion (IsTable size) ts → AllByRecursion (IsTable size) us
    → ((i place : ℕ) (s : Symbol) (a b : Table) → slice_get ss i ≡ Some s → slice_get ts i ≡ Some a → slice_get us i ≡ Some b → place < size ^ s.arity → slice_index a.entries place ≡ slice_index b.entries place)
    → ts ≡ us
same_tables size [] [] [] h k m n each = refl
same_tables size [] [] (b ∷ us) h k m n each = absurd k
same_tables size [] (a ∷ ts) us h k m n each = absurd h
same_tables size (s ∷ ss) [] us h k m n each = absurd h
same_tables size (s ∷ ss) (a ∷ ts) [] h k m n each = absurd k
same_tables size (s ∷ ss) (a ∷ ts) (b ∷ us) h k m n each =
    let one : a ≡ b = same_table size s a b h.0 k.0 m.0 n.0 (λ place less. each 0 place s a b refl refl refl less) in
    let rest : ts ≡ us = same_tables size ss ts us h.1 k.1 m.1 n.1 (λ i place z x y e f g less. each (suc i) place z x y e f g less) in
    λ i. one i ∷ rest i

from_behind : {X : Type 0} (xs : List X) (i : ℕ) (x : X) → slice_get (drop 1 xs) i ≡ Some x → slice_get xs (suc i) ≡ Some x
from_behind [] i x e = absurd cc
from_behind (y ∷ ys) i x e = e

-- ---- entries in cells

module _ (sig : List Symbol) (size : ℕ) (some : 1 ≤ size) (i place : ℕ) (s : Symbol) (at_symbol : slice_get (drop 1 sig) i ≡ Some s) (within : place < size ^ s.arity) where
  abbrev cell : Entry
  cell = record { symbol = suc i; indices = digits size s.arity place }

  is_cell : IsCell sig size cell
  is_cell = (
    omega arith,
    subst (λ (o : Option Symbol). IsSomeAnd o (λ (z : Symbol). length (digits size s.arity place) ≡ z.arity)) (sym (from_behind sig i s at_symbol)) (digits_length size s.arity place),
    digits_below size s.arity place some,
  )

  -- the entry in the cell stands at the place
  in_cell : (t : Structure) (a : Table) → t.size ≡ size → slice_get t.tables i ≡ Some a → slice_index a.entries place ≡ entry t (record { 0 = suc i }) (digits size s.arity place)
  in_cell t a sized at_table =
      let at_place : place_of t.size (digits size s.arity place) ≡ place
      = ap (λ (n : ℕ). place_of n (digits size s.arity place)) sized ∙ place_of_digits size s.arity place some within in
      sym (ap (λ (o : Option Table). entry_in o (place_of t.size (digits size s.arity place))) (numbered-suc t.tables i ∙ at_table) ∙ ap (slice_index a.entries) at_place)

  there : (cells : List Entry) → AreCells sig size cells → (k : ℕ) × (slice_get cells k ≡ Some cell)
  there cells are =
      let found = are.all cell is_cell in
      (found.0, slice_get-get_or cells found.0 cell found.1 ∙ ap (λ (x : Entry). Some x) found.2)

  -- two tables that have the same values in the cells have the same entry there
  one_entry : (task : Task) (cells : List Entry) (values : List ℕ) (t u : Structure) (a b : Table) → task.size ≡ size → AreCells sig size cells
      → AreTablesWith task cells values t → AreTablesWith task cells values u → slice_get t.tables i ≡ Some a → slice_get u.tables i ≡ Some b → slice_index a.entries place ≡ slice_index b.entries place
  one_entry task cells values t u a b sized are h k at_a at_b =
      let n = there cells are in
      in_cell t a (h.size ∙ sized) at_a ∙ h.each n.0 cell n.1 ∙ sym (k.each n.0 cell n.1) ∙ sym (in_cell u b (k.size ∙ sized) at_b)

-- tables that have the same values in the cells are the same
one_structure : (task : Task) (cells : List Entry) (values : List ℕ) (t u : Structure) → IsStructure t → IsStructure u → AreCells task.sig task.size cells
    → AreTablesWith task cells values t → AreTablesWith task cells values u → t ≡ u
one_structure task cells values t u is iz are h k =
    let size : t.size ≡ u.size = h.size ∙ sym k.size in
    let some : 1 ≤ task.size = subst (λ (n : ℕ). 1 ≤ n) h.size is.not_empty in
    let tables : t.tables ≡ u.tables
    = same_tables task.size (drop 1 task.sig) t.tables u.tables h.over k.over
    (subst (λ (n : ℕ). AllByRecursion (IsTable n) t.tables) h.size (recursion_from_All (IsTable t.size) t.tables is.each))
    (subst (λ (n : ℕ). AllByRecursion (IsTable n) u.tables) k.size (recursion_from_All (IsTable u.size) u.tables iz.each))
    (λ i place s a b at_symbol at_a at_b within. one_entry task.sig task.size some i place s at_symbol within task cells values t u a b refl are h k at_a at_b) in
    λ i. record { size = size i; tables = tables i }

-- ---- first models

pub first_model_is_one : (task : Task) (piece : Option ℕ) (t u : Structure) → IsStructure t → IsStructure u → IsFirstModel task piece t → IsFirstModel task piece u → t ≡ u
first_model_is_one task piece t u is iz h k =
    let cells : k.cells ≡ h.cells = one_order cell_numbers (IsCell task.sig task.size) k.cells h.cells k.are_cells h.are_cells in
    let other : IsModel task piece h.cells k.values = subst (λ (cs : List Entry). IsModel task piece cs k.values) cells k.model in
    let mine : IsModel task piece k.cells h.values = subst (λ (cs : List Entry). IsModel task piece cs h.values) (sym cells) h.model in
    let long : length k.values ≡ length h.values = other.0 ∙ sym h.model.0 in
    let values : k.values ≡ h.values = one_list k.values h.values long (h.least k.values other) (k.least h.values mine) in
    let tables : AreTablesWith task h.cells h.values u
    = subst (λ (vs : List ℕ). AreTablesWith task h.cells vs u) values (subst (λ (cs : List Entry). AreTablesWith task cs k.values u) cells k.tables) in
    one_structure task h.cells h.values t u is iz h.are_cells h.tables tables
