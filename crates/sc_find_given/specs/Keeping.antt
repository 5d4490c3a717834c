-- What a partial interpretation keeps: its rows have the number of each cell, and no other.
use Rattle.std.specs.Prelude.{◌≡◌, ◌<◌, ◌≤◌, ℕ, List, Some, map, length, slice_get}
use Rattle.sc_term.specs.declared.SymId.{SymId}
use Rattle.sc_cells.specs.Cells.{Entry}
use Rattle.sc_find_given.specs.declared.row.Row.{Row}
use Rattle.sc_find_given.specs.declared.slot.Slot.{Slot}
use Rattle.sc_find_given.specs.Lookup.{number_for}

-- the cell that a slot stands for
abbrev pub entry_of : Slot → Entry
entry_of slot = record { symbol = slot.sym.0; indices = slot.indices }

-- the cells that the slots stand for
abbrev pub slot_entries : List Slot → List Entry
slot_entries slots = map entry_of slots

-- the rows have the number of each of the cells, and of nothing else
pub record AreIndexed (size : ℕ) (rows : List Row) (cells : List Entry) : Type 0 where
  pub there : (n : ℕ) (cell : Entry) → slice_get cells n ≡ Some cell → number_for size rows (record { 0 = cell.symbol }) cell.indices ≡ Some n
  pub right : (f : SymId) (args : List ℕ) (n : ℕ) → number_for size rows f args ≡ Some n → n < length cells
      → slice_get cells n ≡ Some (record { symbol = f.0; indices = args })

-- there is room for a value of each cell, and not more are given
pub record IsKept (size : ℕ) (rows : List Row) (slots : List Slot) (values : List ℕ) (len : ℕ) : Type 0 where
  pub indexed : AreIndexed size rows (slot_entries slots)
  pub room : length values ≡ length slots
  pub within : len ≤ length values
