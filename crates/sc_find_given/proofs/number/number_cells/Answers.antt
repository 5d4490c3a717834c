use Rattle.std.proofs.Common.{◌≡◌, ◌∙◌, ap, ◌<◌, ◌≤◌, length, get_or, arith}
use Rattle.std.proofs.lemmas.List.{length-map}
use Rattle.std.proofs.lemmas.Option.{slice_get-get_or}
use Rattle.sc_cells.specs.declared.cells.Cell.{Cell}
use Rattle.sc_cells.specs.Cells.{cell_at}
use Rattle.sc_find_given.proofs.NumberLaws.{write_fits, numbered_step, all_numbered}
use Rattle.sc_find_given.proofs.number.number_cells.Goals as goal

abbrev no_cell : Cell
no_cell = record { sym = record { 0 = 0 }; place = 0 }

pub overflow_sub-cell : goal.overflow_sub-cell
overflow_sub-cell c =
    let within : c.loop-number.number < length c.args.cells.now = omega arith in
    let cell : Cell = get_or c.args.cells.now c.loop-number.number no_cell in
    let fits = write_fits c.requires.0 c.loop-number.rows c.requires.1 c.args.cells.now c.loop-number.number cell
    (c.loop-number.invariant c.requires.0 c.requires.1 c.requires.2).0 (slice_get-get_or c.args.cells.now c.loop-number.number no_cell within) in
    let positive : 0 < cell.sym.0 = fits.0 in
    omega (arith, positive)

pub set_number-requires : goal.set_number-requires
set_number-requires c =
    let within : c.loop-number.number < length c.args.cells.now = omega arith in
    let cell : Cell = get_or c.args.cells.now c.loop-number.number no_cell in
    (write_fits c.requires.0 c.loop-number.rows c.requires.1 c.args.cells.now c.loop-number.number cell
    (c.loop-number.invariant c.requires.0 c.requires.1 c.requires.2).0 (slice_get-get_or c.args.cells.now c.loop-number.number no_cell within)).1

pub loop-number-preserved : goal.loop-number-preserved
loop-number-preserved c = λ size entries have.
    let within : c.loop-number.number < length c.args.cells.now = omega arith in
    let cell : Cell = get_or c.args.cells.now c.loop-number.number no_cell in
    let before = c.loop-number.invariant size entries have in
    let step = numbered_step size entries c.args.cells.now c.loop-number.rows c.set_number.new.rows c.loop-number.number cell
    (slice_get-get_or c.args.cells.now c.loop-number.number no_cell within) before.0 c.set_number.ensures in
    (step.0, λ apart blank. step.1 apart (before.1 apart blank))

pub returns : goal.returns
returns c = λ size entries have apart blank.
    let past : length c.args.cells.now ≤ c.loop-number.number = omega arith in
    let many : length c.args.cells.now ≡ length entries = ap length have.are ∙ length-map entries (cell_at size) in
    all_numbered size c.loop-number.rows entries c.loop-number.number (omega (arith, past, many)) ((c.loop-number.invariant size entries have).1 apart blank)
