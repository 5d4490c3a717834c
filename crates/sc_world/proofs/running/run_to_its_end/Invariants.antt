use Rattle.std.proofs.Common.{length}
use Rattle.sc_world.specs.Underway.{IsUnderway, turns_left}
use Rattle.sc_world.proofs.running.run_to_its_end.Given as goal

abbrev pub invariant-loop-outcome : goal.invariant-loop-outcome
invariant-loop-outcome l = IsUnderway l.fn.chooser l.prover l.chooser

abbrev pub decreases-loop-outcome : goal.decreases-loop-outcome
decreases-loop-outcome l = turns_left l.fn.chooser.problem.params.max_given l.prover.run.ended (length l.prover.run.given)
