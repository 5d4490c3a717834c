use Rattle.std.proofs.Common.{subst, ◌≤◌, All}
use Rattle.sc_input_rules.specs.WellFormed.{IsOver}
use Rattle.sc_find.specs.Models.{Task}
use Rattle.sc_find.proofs.job.Job.keeps.Goals as goal

pub returns-clause-over : goal.returns-clause-over
returns-clause-over c = subst (λ (t : Task). All (IsOver t.sig) t.clauses) c.self.view_is c.self.invariant.over

pub returns-clause-small : goal.returns-clause-small
returns-clause-small c = subst (λ (t : Task). t.size ≤ 8) c.self.view_is c.self.invariant.small
