-- Each given row tells the truth of its clause in the version that it names.
use Rattle.std.specs.Prelude.{◌≡◌, ◌⊎◌, List, Some}
use Rattle.std.specs.List.{AllZip, AllByRecursion}
use Rattle.sc_term.specs.declared.Clause.{Clause}
use Rattle.sc_term.specs.Numbering.{numbered}
use Rattle.sc_input_rules.specs.Problem.{Stated}
use Rattle.sc_input_rules.specs.WellFormed.{IsProblem}
use Rattle.sc_interp.specs.declared.plain.VersionName.{VersionName}
use Rattle.sc_interp.specs.Marks.{IsMark}
use Rattle.sc_interp.specs.Versions.{ClaimedStructure, opening}
use Rattle.sc_core_rules.specs.declared.row.GivenRow.{GivenRow}
use Rattle.sc_core_rules.specs.Book.{Book, numbered_clauses}
use Rattle.sc_core_rules.specs.Selection.{Seen, opening_name, IsAt}
use Rattle.sc_core_rules.specs.Turn.{Run}
use Rattle.sc_core_rules.specs.Run.{IsPrefixOf, IsRun}

-- the name is that of the opening version, or of a version in one of the lists
abbrev pub IsNamed : Stated → Seen → VersionName → ClaimedStructure → Type 0
IsNamed problem versions name v = ((name ≡ opening_name) × (v ≡ opening problem.symbols)) ⊎ IsAt versions name v

-- the row has the mark of its clause in the version that it names
pub record IsTrueRow (problem : Stated) (versions : Seen) (book : Book) (row : GivenRow) : Type 0 where
  pub version : ClaimedStructure
  pub named : IsNamed problem versions row.name version
  pub clause : Clause
  pub there : numbered (numbered_clauses problem book) row.number ≡ Some clause
  pub marked : IsMark version.tables clause row.truth

-- the look is of fronts of the lists
abbrev pub IsFrontOf : Seen → Seen → Type 0
IsFrontOf versions look = AllZip IsPrefixOf look versions

-- in a run over looks at fronts of the lists every given row is true
abbrev pub RowsAreTrue : Type 0
RowsAreTrue = (problem : Stated) (versions : Seen) (looks : List Seen) (run : Run) → IsProblem problem → AllByRecursion (IsFrontOf versions) looks → IsRun problem looks run
    → AllByRecursion (IsTrueRow problem versions run.book) run.given
