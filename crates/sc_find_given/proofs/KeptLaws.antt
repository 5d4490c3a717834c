-- What a partial interpretation keeps, taken to the prefix that it is seen as.
use Rattle.std.proofs.Common.{◌≡◌, ◌∙◌, sym, ap, subst, ℕ, ◌≤◌, Option, Some, None, List, [], ◌++◌, map, take, drop, length, get_or, arith}
use Rattle.std.specs.List.{All}
use Rattle.std.proofs.lemmas.List.{append-nil, length-map, length-take}
use Rattle.sc_term.specs.declared.Literal.{Literal}
use Rattle.sc_term.specs.Interpretation.{Assignment}
use Rattle.sc_term.specs.declared.symbol.Symbol.{Symbol}
use Rattle.sc_cells.specs.declared.cells.Cell.{Cell}
use Rattle.sc_cells.specs.Cells.{Entry, Prefix, AreCells, cell_at, IsFalseBy}
use Rattle.sc_find_given.specs.declared.row.Row.{Row}
use Rattle.sc_find_given.specs.declared.slot.Slot.{Slot}
use Rattle.sc_find_given.specs.Lookup.{look_up, IsFoundFalse}
use Rattle.sc_find_given.specs.Keeping.{entry_of, slot_entries, AreIndexed, IsKept}
use Rattle.sc_find_given.specs.Numbering.{blank_row, HasRow, HaveRows, AreBlank, AreApart}
use Rattle.sc_find_given.specs.Waiting.{Decides, IsWaiting}
use Rattle.sc_find_given.proofs.GivenLaws.{false_is}
use Rattle.sc_find_given.proofs.NumberLaws.{rows_blank, has_blank, cells_apart}

abbrev pub seen : List Slot → List ℕ → ℕ → Prefix
seen slots values len = record { cells = slot_entries slots; values = take len values }

-- what the rows decide is what the prefix waits for
pub waits_by : (size : ℕ) (rows : List Row) (slots : List Slot) (values : List ℕ) (len : ℕ) → IsKept size rows slots values len → (p : Prefix) → seen slots values len ≡ p
    → (given : List ℕ) → given ≡ p.values → (a : Assignment) (ls : List Literal) (r : Option ℕ)
    → Decides (λ g. All (IsFoundFalse (look_up size rows g) a) ls) given r → IsWaiting ls a p r
waits_by size rows slots values len kept p is given same a ls r h = by r (subst (λ (vs : List ℕ). Decides (λ g. All (IsFoundFalse (look_up size rows g) a) ls) vs r) same h)
  where
    cells_are : slot_entries slots ≡ p.cells
    cells_are = ap (λ (q : Prefix). q.cells) is

    few : length p.values ≤ length p.cells
    few = subst (λ (q : Prefix). length q.values ≤ length q.cells) is (omega (arith, length-take len values, length-map slots entry_of, kept.room))

    law : (vs : List ℕ) → length vs ≤ length p.cells → IsFoundFalse (look_up size rows vs) a ≡ IsFalseBy (record { cells = p.cells; values = vs }) a
    law vs most = false_is size rows p.cells vs (subst (AreIndexed size rows) cells_are kept.indexed) most a

    by : (r : Option ℕ) → Decides (λ g. All (IsFoundFalse (look_up size rows g) a) ls) p.values r → IsWaiting ls a p r
    by None h = subst (λ (P : Literal → Type 0). All P ls) (law p.values few) (subst (λ (vs : List ℕ). All (IsFoundFalse (look_up size rows vs) a) ls) (append-nil p.values) (h []))
    by (Some cell) h = (h.0, λ more within most all. h.1 more most (subst (λ (P : Literal → Type 0). All P ls) (sym (law (p.values ++ more) within)) all))

-- ---- at the start

module _ (sig : List Symbol) (size : ℕ) (cells : List Cell) (entries : List Entry) (order : AreCells sig size entries) (are : cells ≡ map (cell_at size) entries)
    (slots : List Slot) (slots_are : slot_entries slots ≡ entries) where
  pub slots_many : length slots ≡ length cells
  slots_many = sym (length-map slots entry_of) ∙ ap length slots_are ∙ sym (length-map entries (cell_at size)) ∙ ap length (sym are)

  pub rows_fit : (rows : List Row) (many : ℕ) → rows ≡ map (blank_row size many) (drop 1 sig) → HaveRows size rows entries cells
  rows_fit rows many is = record {
    are = are;
    each = subst (λ (rs : List Row). All (HasRow size rs) entries) (sym is) (λ k d lt. has_blank sig size many (get_or entries k d) (order.only k d lt));
  }

  pub rows_indexed : (rows : List Row) (many : ℕ) (next : List Row) → rows ≡ map (blank_row size many) (drop 1 sig) → many ≡ length cells
      → ((size : ℕ) (entries : List Entry) → HaveRows size rows entries cells → AreApart entries → AreBlank size rows (length entries) → AreIndexed size next entries)
      → AreIndexed size next (slot_entries slots)
  rows_indexed rows many next is all indexes = subst (AreIndexed size next) (sym slots_are)
      (indexes size entries (rows_fit rows many is) (cells_apart sig size entries order)
      (subst (λ (rs : List Row). AreBlank size rs (length entries)) (sym is)
      (subst (AreBlank size (map (blank_row size many) (drop 1 sig))) (all ∙ ap length are ∙ length-map entries (cell_at size)) (rows_blank size many (drop 1 sig)))))
