use Rattle.std.proofs.Common.{◌≡◌, ◌≤◌, ◌*◌, take}
use Rattle.sc_cells.specs.Cells.{cell_count}
use Rattle.sc_cells.proofs.cells.count_cells.Given as goal

abbrev pub invariant-loop-number : goal.invariant-loop-number
invariant-loop-number l = (l.count ≡ cell_count (take l.number l.sig) l.size) × (l.count ≤ l.number * 16777216)
