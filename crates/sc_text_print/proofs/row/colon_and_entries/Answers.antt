use Rattle.std.proofs.Common.{append_assoc, refl}
use Rattle.std.specs.Prelude.{codes}
use Rattle.sc_text_print.proofs.RunRows.{number_more}
use Rattle.sc_text_print.proofs.row.colon_and_entries.Goals as goal

pub loop-e-preserved : goal.loop-e-preserved
loop-e-preserved c =
    let k = c.in_ok-spaced_number.ensures in
    let i = c.loop-e.invariant in
    let m = number_more (codes ":") c.args.entries.now c.loop-e.e-index 0 c.from.result c.loop-e-test.true c.from.ensures in
    rw (k, i) (simp append_assoc (rw m refl))
