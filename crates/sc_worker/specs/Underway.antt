-- A finder between two candidates: what it has published so far.
use Rattle.std.specs.Prelude.{◌≡◌, ◌≢◌, ◌≤◌, ◌+◌, ℕ, true, false, List, [], ◌∷◌, ◌++◌, Option, Some, None, length}
use Rattle.sc_input_rules.specs.Problem.{Stated}
use Rattle.sc_interp.specs.Versions.{ClaimedStructure}
use Rattle.sc_shelf.specs.State.{PressState, listed, is_closed}
use Rattle.sc_worker.specs.declared.plan.Plan.{Plan}
use Rattle.sc_worker.specs.declared.working.Step.{Step}
use Rattle.sc_worker.specs.declared.working.Step.TheVariants.{Went, Done, Wide}
use Rattle.sc_worker.specs.declared.worked.Skip.{Skip}
use Rattle.sc_worker.specs.FinderList.{versions_of, IsWork}
use Rattle.sc_worker.specs.Choosing.{Choice, at_first, after_answers, IsTooWide, IsJoined, IsSkipped}

-- finder f has come to this choice, and the versions are those for the candidates that it has worked
pub record HasCome (problem : Stated) (plan : Plan) (f : ℕ) (now : Choice) (versions : List ClaimedStructure) : Type 0 where
  pub worked : ℕ
  pub answers : List (Option ClaimedStructure)
  pub choice : now ≡ after_answers problem plan f worked answers
  pub work : IsWork problem plan f worked answers
  pub published : versions ≡ versions_of answers

-- a press that may go on publishing has room for a version of each candidate that is left, over the problem's symbols
pub record IsReady (now : Choice) (press : PressState) : Type 0 where
  pub symbols : press.symbols ≡ now.problem.symbols
  pub whole : press.whole ≡ true
  pub unclosed : is_closed press ≡ false
  pub few : length (listed press) + length now.left ≤ 128

-- from its first choice, whichever finder's that is, it has come to this one, and has published what that finder would
pub record IsUnderway (first now : Choice) (press : PressState) : Type 0 where
  pub ready : IsReady now press
  pub problem : now.problem ≡ first.problem
  pub fewer : length now.left ≤ length first.left
  pub came : (plan : Plan) (f : ℕ) → first ≡ at_first first.problem plan f → HasCome first.problem plan f now (listed press)

-- the answer of the next candidate: its version if it joins, and none if it is skipped
abbrev pub HasAnswer : Choice → Choice → Option ClaimedStructure → Type 0
HasAnswer old new (Some v) = IsJoined old new v
HasAnswer old new None = (reason : Skip) × IsSkipped old new reason

-- one candidate more was worked, and its version, if it has one, was published
pub record IsOneMore (old new : Choice) (before after : PressState) : Type 0 where
  pub answer : Option ClaimedStructure
  pub narrow : ¬ IsTooWide old
  pub has : HasAnswer old new answer
  pub published : listed after ≡ listed before ++ versions_of (answer ∷ [])
  pub ready : IsReady new after

-- what a step of the work did: one candidate more; or nothing, since none is left, or there are too many cells
abbrev pub Stepped : Choice → Choice → PressState → PressState → Step → Type 0
Stepped old new before after Went = IsOneMore old new before after
Stepped old new before after Done = (old.left ≡ []) × (listed after ≡ listed before)
Stepped old new before after Wide = (old.left ≢ []) × IsTooWide old × (listed after ≡ listed before)
