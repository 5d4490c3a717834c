use Rattle.sc_world.specs.Abreast.{IsCatchingUp}
use Rattle.sc_world.proofs.turns.catch_up.Given as goal

abbrev pub invariant-loop-i : goal.invariant-loop-i
invariant-loop-i l = IsCatchingUp l.fn.prover l.prover l.windows l.i
