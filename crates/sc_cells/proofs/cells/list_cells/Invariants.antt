use Rattle.std.proofs.Common.{◌≡◌, map}
use Rattle.sc_cells.specs.Cells.{cell_at}
use Rattle.sc_cells.specs.Listing.{in_turn, entries_with}
use Rattle.sc_cells.proofs.cells.list_cells.Given as goal

abbrev pub invariant-loop-greatest : goal.invariant-loop-greatest
invariant-loop-greatest l = l.cells ≡ map (cell_at l.size) (in_turn (entries_with l.sig l.size) l.greatest)
