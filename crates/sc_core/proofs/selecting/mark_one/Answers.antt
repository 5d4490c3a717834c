use Rattle.sc_core.proofs.MarkLaws.{new_mark}
use Rattle.sc_core.proofs.selecting.mark_one.Goals as goal

pub returns-in_ok-mark-in-None : goal.returns-in_ok-mark-in-None
returns-in_ok-mark-in-None c = new_mark c.args.marks.now c.mark.new.self c.args.p.now c.in_ok-mark-in-None.ensures.marked
