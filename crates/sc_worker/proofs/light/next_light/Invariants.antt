use Rattle.std.proofs.Common.{◌≡◌}
use Rattle.sc_worker.specs.Keeping.{light_from}
use Rattle.sc_worker.proofs.light.next_light.Given as goal

abbrev pub invariant-loop-place : goal.invariant-loop-place
invariant-loop-place l = light_from l.clauses l.from ≡ light_from l.clauses l.place
