use Rattle.sc_world.proofs.WorldSight.{IsSeeing}
use Rattle.sc_world.proofs.world.see_from.Given as goal

abbrev pub invariant-loop-place : goal.invariant-loop-place
invariant-loop-place l = IsSeeing l.finder l.versions l.from l.place l.fn.prover l.prover
