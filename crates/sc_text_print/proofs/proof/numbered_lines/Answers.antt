use Rattle.std.proofs.Common.{append_assoc, refl}
use Rattle.sc_text_print.proofs.Rows.{lines_more}
use Rattle.sc_text_print.proofs.proof.numbered_lines.Goals as goal

pub loop-i-preserved : goal.loop-i-preserved
loop-i-preserved c =
    let k = c.in_ok-line.ensures in
    let i = c.loop-i.invariant in
    let l = c.index-lines-i.result in
    let m = lines_more c.args.sig.now 1 c.args.lines.now c.loop-i.i l l c.loop-i-test.true c.index-lines-i.is in
    rw (k, i) (simp append_assoc (rw m refl))
