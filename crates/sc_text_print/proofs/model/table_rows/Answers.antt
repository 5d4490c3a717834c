use Rattle.std.proofs.Common.{append_assoc, append-nil, refl}
use Rattle.sc_text_run_rules.specs.ModelText.{without_equality}
use Rattle.sc_text_print.proofs.RunRows.{table_more, no_table}
use Rattle.sc_text_print.proofs.model.table_rows.Goals as goal

pub loop-i-init : goal.loop-i-init
loop-i-init c = rw (no_table (without_equality c.args.sig.now), append-nil) refl

pub loop-i-preserved : goal.loop-i-preserved
loop-i-preserved c =
    let k = c.in_ok-row_at.ensures in
    let i = c.loop-i.invariant in
    let t = c.index-tables-i.result in
    let m = table_more c.args.sig.now c.args.tables.now c.loop-i.i t t c.loop-i-test.true c.index-tables-i.is in
    rw (k, c.as_slice.ensures, i) (simp append_assoc (rw m refl))
