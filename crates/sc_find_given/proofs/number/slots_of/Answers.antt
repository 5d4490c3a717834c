use Rattle.std.proofs.Common.{◌<◌, length, get_or, arith}
use Rattle.std.proofs.lemmas.Option.{slice_get-get_or}
use Rattle.sc_cells.specs.declared.cells.Cell.{Cell}
use Rattle.sc_find_given.proofs.NumberLaws.{slots_more, symbol_within, slot_entry}
use Rattle.sc_find_given.proofs.number.slots_of.Goals as goal

abbrev no_cell : Cell
no_cell = record { sym = record { 0 = 0 }; place = 0 }

pub symbol-symbol-requires : goal.symbol-symbol-requires
symbol-symbol-requires c =
    let within : c.loop-cell.cell-index < length c.args.cells.now = omega arith in
    symbol_within c.args.sig.now c.args.size c.args.cells.now c.loop-cell.cell-index (get_or c.args.cells.now c.loop-cell.cell-index no_cell)
    (slice_get-get_or c.args.cells.now c.loop-cell.cell-index no_cell within) c.requires.cells.0 c.requires.cells.1 c.requires.cells.2

pub loop-cell-preserved : goal.loop-cell-preserved
loop-cell-preserved c =
    let within : c.loop-cell.cell-index < length c.args.cells.now = omega arith in
    let cell : Cell = get_or c.args.cells.now c.loop-cell.cell-index no_cell in
    slots_more c.args.sig.now c.args.size c.args.cells.now c.loop-cell.cell-index cell c.loop-cell.slots.items c.push.new.self.items
    (record { sym = cell.sym; indices = c.in_ok-indices.indices }) (slice_get-get_or c.args.cells.now c.loop-cell.cell-index no_cell within) c.loop-cell.invariant
    (slot_entry c.args.sig.now c.args.size cell c.symbol-symbol.result.now c.in_ok-indices.indices c.symbol-symbol.ensures c.in_ok-indices.ensures)
    c.in_ok-push.ensures.items
