-- What contracts see of a chooser, and what working its next candidate does.
use Rattle.std.specs.Prelude.{◌≡◌, ◌≢◌, ◌<◌, ℕ, List, [], ◌∷◌, Option, None, drop}
use Rattle.sc_term.specs.declared.Numbered.{Numbered}
use Rattle.sc_input_rules.specs.Problem.{Stated}
use Rattle.sc_interp.specs.declared.plain.Claim.{Claim}
use Rattle.sc_interp.specs.Structure.{Structure, IsStructure}
use Rattle.sc_interp.specs.Versions.{ClaimedStructure}
use Rattle.sc_cells.specs.Cells.{cell_count}
use Rattle.sc_cells.specs.Ground.{instance_count}
use Rattle.sc_find.specs.Models.{Task, FindsNoModel, IsFirstModel, ExceedsBudget}
use Rattle.sc_worker.specs.declared.plan.Plan.{Plan}
use Rattle.sc_worker.specs.declared.worked.Skip.{Skip}
use Rattle.sc_worker.specs.declared.worked.Skip.TheVariants as skip
use Rattle.sc_worker.specs.declared.worked.Worked.{Worked}
use Rattle.sc_worker.specs.declared.worked.Worked.TheVariants.{Joined, Skipped, Done, Wide}
use Rattle.sc_worker.specs.Plans.{size_of_finder}
use Rattle.sc_worker.specs.FinderList.{candidates_of, with_claim, task_for, MayBeTried, version_with, claims_after}

-- the problem, the size and the budget, the claims so far, and the candidates that are left
pub record Choice : Type 0 where
  pub problem : Stated
  pub size : ℕ
  pub budget : ℕ
  pub claims : List Claim
  pub left : List Numbered

-- finder f before its first candidate
abbrev pub at_first : Stated → Plan → ℕ → Choice
at_first problem plan f =
    record { problem = problem; size = size_of_finder plan f; budget = plan.nodes; claims = []; left = candidates_of problem plan }

-- finder f after its first c candidates, which have these answers
abbrev pub after_answers : Stated → Plan → ℕ → ℕ → List (Option ClaimedStructure) → Choice
after_answers problem plan f c answers =
    record {
      problem = problem;
      size = size_of_finder plan f;
      budget = plan.nodes;
      claims = claims_after [] answers;
      left = drop c (candidates_of problem plan);
    }

-- there are too many cells to search
abbrev pub IsTooWide : Choice → Type 0
IsTooWide choice = 4096 < cell_count choice.problem.symbols choice.size

-- why a task is given up: it has no model; a plain search for one has more nodes than the budget; or it has too many
-- instances, which is told exactly where that is so
abbrev pub IsReasonFor : ℕ → Task → Skip → Type 0
IsReasonFor budget task skip.NoModel = MayBeTried task × FindsNoModel task None
IsReasonFor budget task skip.Spent = MayBeTried task × ExceedsBudget task None budget
IsReasonFor budget task skip.Instances = 200000 < instance_count task.clauses task.size

-- why a candidate is skipped: the reason is one for the task of the claims with it
abbrev pub IsReason : Choice → List Claim → Skip → Type 0
IsReason choice claims reason = IsReasonFor choice.budget (task_for choice.problem choice.size claims) reason

-- the next candidate p, before these others, joins: the version is that of the first model of the claims with it
pub record IsJoined (old new : Choice) (v : ClaimedStructure) : Type 0 where
  pub candidate : Numbered
  pub others : List Numbered
  pub next : old.left ≡ candidate ∷ others
  pub tried : MayBeTried (task_for old.problem old.size (with_claim old.claims candidate))
  pub tables : Structure
  pub structure : IsStructure tables
  pub first : IsFirstModel (task_for old.problem old.size (with_claim old.claims candidate)) None tables
  pub version : v ≡ version_with tables (with_claim old.claims candidate)
  pub goes_on : new ≡ record old { claims = with_claim old.claims candidate; left = others }

-- the next candidate is skipped
pub record IsSkipped (old new : Choice) (reason : Skip) : Type 0 where
  pub candidate : Numbered
  pub others : List Numbered
  pub next : old.left ≡ candidate ∷ others
  pub reasons : IsReason old (with_claim old.claims candidate) reason
  pub goes_on : new ≡ record old { left = others }

-- the next candidate was worked, or there is none, or there are too many cells
abbrev pub IsWorked : Choice → Choice → Worked → Type 0
IsWorked old new (Joined v) = (¬ IsTooWide old) × IsJoined old new v
IsWorked old new (Skipped reason) = (¬ IsTooWide old) × IsSkipped old new reason
IsWorked old new Done = (old.left ≡ []) × (new ≡ old)
IsWorked old new Wide = (old.left ≢ []) × IsTooWide old × (new ≡ old)
