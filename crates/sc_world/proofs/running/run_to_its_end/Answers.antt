use Rattle.std.proofs.Common.{sym}
use Rattle.sc_world.proofs.StepLaws.{room, step_underway, step_fewer}
use Rattle.sc_world.proofs.running.run_to_its_end.Goals as goal

pub step-requires-clause-room : goal.step-requires-clause-room
step-requires-clause-room c = room c.args.chooser.now c.loop-outcome.prover c.loop-outcome.chooser c.loop-outcome.invariant c.requires.few

pub loop-outcome-smaller : goal.loop-outcome-smaller
loop-outcome-smaller c =
    step_fewer c.args.chooser.now c.loop-outcome.prover c.loop-outcome.chooser c.loop-outcome.invariant (sym c.in-None.ensures)
    c.step.new.prover c.step.new.chooser c.in_ok-step.ensures

pub loop-outcome-preserved : goal.loop-outcome-preserved
loop-outcome-preserved c =
    step_underway c.args.chooser.now c.loop-outcome.prover c.loop-outcome.chooser c.loop-outcome.invariant (sym c.in-None.ensures)
    c.step.new.prover c.step.new.chooser c.in_ok-step.ensures
