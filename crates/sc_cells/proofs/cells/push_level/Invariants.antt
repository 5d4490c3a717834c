use Rattle.std.proofs.Common.{◌≡◌, ◌++◌, map}
use Rattle.sc_cells.specs.Cells.{cell_at}
use Rattle.sc_cells.specs.Listing.{in_turn, entries_at}
use Rattle.sc_cells.proofs.cells.push_level.Given as goal

abbrev pub invariant-loop-number : goal.invariant-loop-number
invariant-loop-number l = l.cells ≡ l.initial.cells ++ map (cell_at l.size) (in_turn (entries_at l.sig l.size l.greatest) l.number)
