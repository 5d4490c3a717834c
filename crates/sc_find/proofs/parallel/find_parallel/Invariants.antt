use Rattle.std.proofs.Common.{◌-◌, ◌≤◌, ℕ}
use Rattle.sc_find.specs.Models.{Task}
use Rattle.sc_find.specs.Answers.{NoneBefore}
use Rattle.sc_find.proofs.parallel.find_parallel.Given as goal

-- no piece before the next has a model
pub record IsPast (job : Task) (from end : ℕ) : Type 0 where
  pub some : 1 ≤ from
  pub within : from ≤ end
  pub none : NoneBefore job from

abbrev pub invariant-loop-from : goal.invariant-loop-from
invariant-loop-from g l = IsPast l.job l.from l.end

abbrev pub decreases-loop-from : goal.decreases-loop-from
decreases-loop-from g l = l.end - l.from
