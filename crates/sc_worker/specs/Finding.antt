-- A finder that publishes on a shelf: what stands on it once the finder has ended.
use Rattle.std.specs.Prelude.{◌≡◌, ◌<◌, ℕ, List, Option, length, ⊤}
use Rattle.sc_input_rules.specs.Problem.{Stated}
use Rattle.sc_interp.specs.Versions.{ClaimedStructure}
use Rattle.sc_shelf.specs.State.{PressState}
use Rattle.sc_text_run_rules.specs.declared.run.FinderEnd.{FinderEnd}
use Rattle.sc_text_run_rules.specs.declared.run.FinderEnd.TheVariants.{Done, Stopped, Wide, Memory}
use Rattle.sc_worker.specs.declared.plan.Plan.{Plan}
use Rattle.sc_worker.specs.FinderList.{candidates_of, versions_of, IsWide, IsWork}
use Rattle.sc_worker.specs.Choosing.{Choice}

-- what it works through, and the end of the shelf at which it publishes
pub record FinderState : Type 0 where
  pub choice : Choice
  pub press : PressState

-- how many candidates finder f has worked that ended so: all of them; the first at least, and not all; none, since there
-- are too many cells; any number
abbrev pub FitsEnd : Stated → Plan → ℕ → FinderEnd → ℕ → Type 0
FitsEnd problem plan f Done worked = worked ≡ length (candidates_of problem plan)
FitsEnd problem plan f Stopped worked = (0 < worked) × (worked < length (candidates_of problem plan))
FitsEnd problem plan f Wide worked = IsWide problem plan f
FitsEnd problem plan f Memory worked = ⊤

-- finder f has ended so, and the versions are those that it published for the candidates that it worked
pub record IsFound (problem : Stated) (plan : Plan) (f : ℕ) (end : FinderEnd) (versions : List ClaimedStructure) : Type 0 where
  pub worked : ℕ
  pub answers : List (Option ClaimedStructure)
  pub work : IsWork problem plan f worked answers
  pub fits : FitsEnd problem plan f end worked
  pub published : versions ≡ versions_of answers
