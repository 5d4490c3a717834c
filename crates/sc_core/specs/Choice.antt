-- The choice of a turn.
use Rattle.std.specs.Prelude.{◌≡◌, ◌≢◌, ℕ, List, Contains}
use Rattle.sc_term.specs.declared.Clause.{Clause}
use Rattle.sc_term.specs.declared.Numbered.{Numbered}
use Rattle.sc_term.specs.Clause.{weight}
use Rattle.sc_input_rules.specs.Problem.{Stated}
use Rattle.sc_interp.specs.Marks.{IsMark}
use Rattle.sc_interp.specs.Versions.{ClaimedStructure}
use Rattle.sc_interp.specs.declared.plain.VersionName.{VersionName}
use Rattle.sc_core_rules.specs.declared.row.Cause.{Cause}
use Rattle.sc_core_rules.specs.Order.{IsLeast}
use Rattle.sc_core_rules.specs.Selection.{IsFalse, Selects, by_weight, opening_name}
use Rattle.sc_sos.specs.declared.sos.Weighed.{Weighed}
use Rattle.sc_guide.specs.Guided.{Guided, IsGuideOver, lengths_of}
use Rattle.sc_core.specs.declared.choosing.GivenChoice.{GivenChoice}

-- a clause of sos as it is looked up: by its number and its weight
abbrev pub weighed : Numbered → Weighed
weighed p = record { number = p.number; weight = weight p.clause }

-- a version is seen, and a clause of sos is false in the guide of this name
abbrev pub HasFalse : List Numbered → VersionName → ClaimedStructure → Type 0
HasFalse sos name v = (name ≢ opening_name) × ((q : Numbered) × Contains sos q × IsFalse v q)

-- n is the number of the lightest of the clauses of sos that are false in the guide, of which there is one
abbrev pub IsLightestFalse : Stated → List Numbered → VersionName → ClaimedStructure → ℕ → Type 0
IsLightestFalse problem sos name v n = (name ≢ opening_name) × ((p : Numbered) × (p.number ≡ n) × IsLeast (by_weight problem) (IsFalse v) sos p)

-- the clause of sos with that number is chosen in the turn for the cause c, under this guide
abbrev pub IsSelected : Stated → List Numbered → ℕ → VersionName → ClaimedStructure → ℕ → Cause → Type 0
IsSelected problem sos turn name v n c = (p : Numbered) × (p.number ≡ n) × Selects problem sos turn name v p c

-- the given clause is clause n, and the row is its row under the guide of what is seen
pub record IsRowOf (guide : Guided) (turn n : ℕ) (clause : Clause) (cause : Cause) (choice : GivenChoice) : Type 0 where
  pub guides : IsGuideOver guide.opening_version guide.seen guide.name guide.version
  pub given : choice.given ≡ record { number = n; clause = clause }
  pub marked : IsMark guide.version.tables clause choice.row.truth
  pub row : choice.row ≡ record { turn = turn; number = n; cause = cause; name = guide.name; truth = choice.row.truth; lengths = lengths_of guide.seen }

-- a clause of sos is selected under the guide, with its row
pub record IsChosen (problem : Stated) (guide : Guided) (turn : ℕ) (sos : List Numbered) (choice : GivenChoice) : Type 0 where
  pub selects : Selects problem sos turn guide.name guide.version choice.given choice.row.cause
  pub row : IsRowOf guide turn choice.given.number choice.given.clause choice.row.cause choice
