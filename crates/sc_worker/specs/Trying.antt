-- What becomes of one candidate.
use Rattle.std.specs.Prelude.{◌≡◌, ℕ, List, None}
use Rattle.sc_term.specs.declared.Numbered.{Numbered}
use Rattle.sc_input_rules.specs.Problem.{Stated}
use Rattle.sc_interp.specs.declared.plain.Claim.{Claim}
use Rattle.sc_interp.specs.Structure.{Structure, IsStructure}
use Rattle.sc_interp.specs.Versions.{ClaimedStructure}
use Rattle.sc_find.specs.Models.{Task, IsFirstModel}
use Rattle.sc_worker.specs.declared.trying.Tried.{Tried}
use Rattle.sc_worker.specs.declared.trying.Tried.TheVariants.{Found, GivenUp}
use Rattle.sc_worker.specs.declared.worked.Worked.{Worked}
use Rattle.sc_worker.specs.declared.worked.Worked.TheVariants.{Joined, Skipped, Done, Wide}
use Rattle.sc_worker.specs.FinderList.{with_claim, task_for, MayBeTried, version_with}
use Rattle.sc_worker.specs.Choosing.{IsReasonFor}

-- the version is that of the first model of the task, whose clauses are claimed
pub record IsFirstVersion (task : Task) (claims : List Claim) (v : ClaimedStructure) : Type 0 where
  pub tried : MayBeTried task
  pub tables : Structure
  pub structure : IsStructure tables
  pub first : IsFirstModel task None tables
  pub version : v ≡ version_with tables claims

-- the task has a first model, or is given up
abbrev pub IsTried : Task → ℕ → List Claim → Tried → Type 0
IsTried task budget claims (Found v) = IsFirstVersion task claims v
IsTried task budget claims (GivenUp reason) = IsReasonFor budget task reason

-- the candidate joins the claims, or is skipped
abbrev pub IsStep : Stated → ℕ → ℕ → Numbered → List Claim → List Claim → Worked → Type 0
IsStep problem size budget p old new (Joined v) = IsFirstVersion (task_for problem size (with_claim old p)) (with_claim old p) v × (new ≡ with_claim old p)
IsStep problem size budget p old new (Skipped reason) = IsReasonFor budget (task_for problem size (with_claim old p)) reason × (new ≡ old)
IsStep problem size budget p old new Done = ⊥
IsStep problem size budget p old new Wide = ⊥
