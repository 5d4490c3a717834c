use Rattle.std.proofs.Common.{◌++◌, ap, append_assoc}
use Rattle.sc_text_print.proofs.RunRows.{version_more}
use Rattle.sc_text_print.proofs.versions.versions.Goals as goal

pub loop-i-preserved : goal.loop-i-preserved
loop-i-preserved c =
    let k = c.in_ok-version.ensures in
    let i = c.loop-i.invariant in
    let v = c.index-list-i.result in
    let m = version_more c.args.sig.now c.args.finder c.args.list.now c.loop-i.i v v c.loop-i-test.true c.index-list-i.is in
    rw (k, i, append_assoc) (ap (λ s. c.args.text.now.items ++ s) m)
