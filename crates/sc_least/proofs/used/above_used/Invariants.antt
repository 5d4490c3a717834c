use Rattle.std.proofs.Common.{◌≡◌, ◌≤◌, List, length, map, max, drop}
use Rattle.sc_cells.specs.Cells.{Entry, AreCells, cell_at}
use Rattle.sc_least.specs.Bound.{above, used}
use Rattle.sc_least.proofs.used.above_used.Given as goal

abbrev pub invariant-loop-number : goal.invariant-loop-number
invariant-loop-number l = record {
  within : l.number ≤ length l.prefix;
  so_far : (entries : List Entry) → AreCells l.sig l.size entries → l.cells ≡ map (cell_at l.size) entries
      → max l.most (above (used l.sig (drop l.number entries) (drop l.number l.prefix))) ≡ above (used l.sig entries l.prefix);
}
