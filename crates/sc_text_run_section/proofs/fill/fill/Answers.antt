use Rattle.std.proofs.Common.{◌≡◌, ◌∙◌, sym, ap, refl, ℕ, List, length, slice_get, Some, arith}
use Rattle.std.proofs.lemmas.Option.{slice_get_read}
use Rattle.sc_interp.specs.declared.table.Table.{Table}
use Rattle.sc_text_run_section.proofs.FillingTables.{filled_none, row_there, row_more}
use Rattle.sc_text_run_section.proofs.fill.fill.Goals as goal

here : (c : goal.After-as_slice) → slice_get c.args.rows.now c.loop-i.i ≡ Some c.as_slice.result.now
here c =
    slice_get_read c.args.rows.now (length c.args.rows.now) c.loop-i.i c.index-rows-i.result refl c.loop-i-test.true c.index-rows-i.is
    ∙ ap (λ (row : List ℕ). Some row) (sym c.as_slice.ensures)

pub loop-i-init : goal.loop-i-init
loop-i-init c = ap (λ (ts : List Table). record c.args.tables.now { tables = ts }) (sym (filled_none c.args.tables.now.tables))

pub fill_table-requires-clause-there : goal.fill_table-requires-clause-there
fill_table-requires-clause-there c =
    row_there c.args.tables.now c.loop-i.tables c.args.rows.now c.loop-i.i c.as_slice.result.now c.requires.rows (here c) c.loop-i.invariant

pub fill_table-requires-clause-few : goal.fill_table-requires-clause-few
fill_table-requires-clause-few c =
    let same : length c.as_slice.result.now ≡ length _ = ap (λ (row : List ℕ). length row) (c.as_slice.ensures ∙ c.index-rows-i.is) in
    let short = c.requires.short c.loop-i.i c.index-rows-i.result c.loop-i-test.true in
    omega (arith, same, short)

pub loop-i-preserved : goal.loop-i-preserved
loop-i-preserved c =
    let there : slice_get c.args.rows.now c.loop-i.i ≡ Some c.as_slice.result.now =
    slice_get_read c.args.rows.now (length c.args.rows.now) c.loop-i.i c.index-rows-i.result refl c.loop-i-test.true c.index-rows-i.is
    ∙ ap (λ (row : List ℕ). Some row) (sym c.as_slice.ensures) in
    row_more c.args.tables.now c.loop-i.tables c.args.rows.now c.loop-i.i c.as_slice.result.now c.requires.rows there c.loop-i.invariant c.fill_table.new.tables c.fill_table.ensures
