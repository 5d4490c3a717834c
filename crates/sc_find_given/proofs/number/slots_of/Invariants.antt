use Rattle.std.proofs.Common.{◌≡◌, List, map, take}
use Rattle.std.specs.List.{All}
use Rattle.sc_cells.specs.Cells.{Entry, IsCell, cell_at}
use Rattle.sc_find_given.specs.Keeping.{slot_entries}
use Rattle.sc_find_given.proofs.number.slots_of.Given as goal

abbrev pub invariant-loop-cell : goal.invariant-loop-cell
invariant-loop-cell l =
    (entries : List Entry) → All (IsCell l.sig l.size) entries → l.cells ≡ map (cell_at l.size) entries → slot_entries l.slots.items ≡ take l.cell-index entries
