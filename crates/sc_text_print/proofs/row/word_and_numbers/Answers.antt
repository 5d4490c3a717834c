use Rattle.std.proofs.Common.{append_assoc, refl}
use Rattle.sc_text_print.proofs.RunRows.{number_more}
use Rattle.sc_text_print.proofs.row.word_and_numbers.Goals as goal

pub loop-n-preserved : goal.loop-n-preserved
loop-n-preserved c =
    let k = c.in_ok-spaced_number.ensures in
    let i = c.loop-n.invariant in
    let m = number_more c.args.word.now c.args.numbers.now c.loop-n.n-index 0 c.from.result c.loop-n-test.true c.from.ensures in
    rw (k, i) (simp append_assoc (rw m refl))
