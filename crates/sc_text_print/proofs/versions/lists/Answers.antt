use Rattle.std.proofs.Common.{◌++◌, ap, append_assoc}
use Rattle.sc_text_print.proofs.RunRows.{list_more}
use Rattle.sc_text_print.proofs.versions.lists.Goals as goal

pub loop-i-preserved : goal.loop-i-preserved
loop-i-preserved c =
    let k = c.in_ok-versions.ensures in
    let i = c.loop-i.invariant in
    let vs = c.index-lists-i.result in
    let m = list_more c.args.sig.now c.args.lists.now c.loop-i.i vs vs c.loop-i-test.true c.index-lists-i.is in
    rw (k, c.as_slice.ensures, i, append_assoc) (ap (λ s. c.args.text.now.items ++ s) m)
