use Rattle.sc_core.proofs.MarkLaws.{next_marked}
use Rattle.sc_core.proofs.selecting.mark_all.Goals as goal

pub loop-p-preserved : goal.loop-p-preserved
loop-p-preserved c =
    next_marked c.args.marks.now c.loop-p.marks c.mark_one.new.marks c.args.sos.now c.loop-p.p-index c.p-item.result c.loop-p-test.true c.p-item.is c.loop-p.invariant c.in_ok-mark_one.ensures
