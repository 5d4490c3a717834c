use Rattle.std.proofs.Common.{refl, arith}
use Rattle.sc_worker.proofs.WorkingLaws.{underway_at_first, none_where, found_done}
use Rattle.sc_worker.proofs.working.work_all.Goals as goal

pub loop-alloc-init : goal.loop-alloc-init
loop-alloc-init g c = (underway_at_first c.args.chooser.now c.args.press.now c.requires.new c.requires.few, omega arith, (λ some. absurd (omega (arith, some))), refl)

pub returns-clause-found : goal.returns-clause-found
returns-clause-found g c =
    λ plan f is. found_done c.args.chooser.now c.loop-alloc.chooser c.loop-alloc.press c.loop-alloc.invariant.0 plan f is
    (none_where c.loop-alloc.chooser.left c.loop-alloc-test.ensures)
