use Rattle.std.proofs.Common.{append_assoc, refl}
use Rattle.std.specs.Prelude.{decimal}
use Rattle.sc_text_print.proofs.Rows.{joined_more}
use Rattle.sc_text_print.proofs.line.joined_numbers.Goals as goal

pub loop-i-preserved : goal.loop-i-preserved
loop-i-preserved c =
    let h = c.in_ok-separator.ensures in
    let k = c.in_ok-number.ensures in
    let i = c.loop-i.invariant in
    let m = joined_more c.args.between.now decimal c.args.numbers.now c.loop-i.i 0 c.from.result c.loop-i-test.true c.from.ensures in
    rw (k, h, i) (simp append_assoc (rw m refl))
