use Rattle.std.proofs.Common.{length}
use Rattle.sc_world.specs.Abreast.{IsAbreast}
use Rattle.sc_world.specs.Underway.{turns_left}
use Rattle.sc_world.proofs.turns.run_turns.Given as goal

abbrev pub invariant-loop-outcome : goal.invariant-loop-outcome
invariant-loop-outcome g l = IsAbreast l.fn.prover.problem l.prover l.windows

abbrev pub decreases-loop-outcome : goal.decreases-loop-outcome
decreases-loop-outcome g l = turns_left l.fn.prover.problem.params.max_given l.prover.run.ended (length l.prover.run.given)
