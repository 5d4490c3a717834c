use Rattle.sc_cells.specs.Listing.{all_entries}
use Rattle.sc_cells.proofs.CellLaws.{cells_in_order}
use Rattle.sc_cells.proofs.cells.cells_of.Goals as goal

pub returns-in-Ok-clause-value : goal.returns-in-Ok-clause-value
returns-in-Ok-clause-value c =
    (all_entries c.args.sig.now c.args.size, cells_in_order c.args.sig.now c.args.size c.requires.not_empty, c.in-Ok.ensures)
