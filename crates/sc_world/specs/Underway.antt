-- A run under way, with one finder that works a candidate after each turn after which the run goes on.
use Rattle.std.specs.Prelude.{◌≡◌, ◌≤◌, ℕ, ◌+◌, ◌-◌, List, [], ◌∷◌, Option, None, Some, length, min, take, drop, true}
use Rattle.std.specs.List.{AllByRecursion}
use Rattle.sc_input_rules.specs.Problem.{Stated}
use Rattle.sc_interp.specs.Versions.{ClaimedStructure}
use Rattle.sc_core_rules.specs.Book.{Book}
use Rattle.sc_core_rules.specs.Order.{Where}
use Rattle.sc_core_rules.specs.Start.{Starts}
use Rattle.sc_core_rules.specs.declared.row.GivenRow.{GivenRow}
use Rattle.sc_core_rules.specs.declared.row.Outcome.{Outcome}
use Rattle.sc_core.specs.State.{ProverState, at_start}
use Rattle.sc_worker.specs.FinderList.{Answers, claims_after, versions_of}
use Rattle.sc_worker.specs.Choosing.{Choice, IsTooWide}
use Rattle.sc_world.specs.Recorded.{SeesAll, turns_went}

-- the prover is that after the start of the problem's run, with one list of versions
abbrev pub HasStarted : Stated → ProverState → Type 0
HasStarted problem prover = (book : Book) × (goal : Option ℕ) × Starts problem book goal × (prover ≡ at_start problem 1 book goal)

-- of so many turns that wrote a row, those after which the run went on
abbrev pub went : Option Outcome → ℕ → ℕ
went None rows = rows
went (Some outcome) rows = turns_went outcome rows

-- the chooser that began so and worked so many candidates, with these answers
abbrev pub chooser_after : Choice → ℕ → List (Option ClaimedStructure) → Choice
chooser_after first worked answers = record first { claims = claims_after [] answers; left = drop worked first.left }

-- the prover's run is under way, and so is the work of the finder whose chooser began as the first one
pub record IsUnderway (first : Choice) (prover : ProverState) (choice : Choice) : Type 0 where
  -- so many candidates were worked, of those that there are
  pub worked : ℕ
  pub within : worked ≤ length first.left
  -- with these answers
  pub answers : List (Option ClaimedStructure)
  pub finds : Answers first.problem first.size first.budget [] (take worked first.left) answers
  pub chooses : choice ≡ chooser_after first worked answers
  -- one for each turn after which the run went on, until none is left, and none where there are too many cells
  pub many : Where (IsTooWide first) (worked ≡ 0) (worked ≡ min (went prover.run.ended (length prover.run.given)) (length first.left))
  -- the prover had memory for each turn of the same problem
  pub whole : prover.whole ≡ true
  pub same : prover.problem ≡ first.problem
  -- it sees all that was published, in one list, and each row tells all that was published before it
  pub sees : prover.seen ≡ versions_of answers ∷ []
  pub looks : AllByRecursion (SeesAll answers) prover.run.given
  -- the rows are of the turns so far, which are no more than there may be
  pub turns : AllByRecursion (λ (row : GivenRow). row.turn ≤ length prover.run.given) prover.run.given
  pub few : length prover.run.given ≤ first.problem.params.max_given

-- how many more turns there may be, the last of which gives no clause
abbrev pub turns_left : ℕ → Option Outcome → ℕ → ℕ
turns_left max_given None given = max_given + 1 - given
turns_left max_given (Some outcome) given = 0
