use Rattle.std.proofs.Common.{◌≡◌, ◌++◌, map}
use Rattle.sc_cells.specs.Cells.{cell_at}
use Rattle.sc_cells.specs.Listing.{in_turn, entry_where}
use Rattle.sc_cells.proofs.cells.push_symbol.Given as goal

abbrev pub invariant-loop-place : goal.invariant-loop-place
invariant-loop-place l = l.cells ≡ l.initial.cells ++ map (cell_at l.size) (in_turn (entry_where l.size l.greatest l.sym.0 l.arity) l.place)
