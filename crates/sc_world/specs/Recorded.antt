-- When the text of a run tells a run of the given-clause machine.
use Rattle.std.specs.Prelude.{◌≡◌, ◌⊎◌, ℕ, ◌-◌, List, [], ◌∷◌, All, Option, Some, length, map, min, take}
use Rattle.std.specs.List.{AllZip, AllByRecursion}
use Rattle.sc_term.specs.declared.Line.{Line}
use Rattle.sc_term.specs.Numbering.{numbered}
use Rattle.sc_term.specs.Proof.{IsProof}
use Rattle.sc_term.specs.Refuted.{IsRefuted}
use Rattle.sc_steps.specs.Splice.{IsSplice}
use Rattle.sc_input_rules.specs.Problem.{Stated}
use Rattle.sc_interp.specs.declared.plain.Claim.{Claim}
use Rattle.sc_interp.specs.declared.plain.VersionName.{VersionName}
use Rattle.sc_interp.specs.Structure.{AreTablesOf}
use Rattle.sc_interp.specs.Versions.{ClaimedStructure, IsVersion}
use Rattle.sc_interp.specs.Marks.{IsMark}
use Rattle.sc_core_rules.specs.Order.{Where}
use Rattle.sc_core_rules.specs.declared.row.GivenRow.{GivenRow}
use Rattle.sc_core_rules.specs.declared.row.KeptRow.{KeptRow}
use Rattle.sc_core_rules.specs.declared.row.Outcome.{Outcome}
use Rattle.sc_core_rules.specs.declared.row.Outcome.TheVariants.{Proof, SosEmpty, GivenLimit, KeptLimit, WorkLimit}
use Rattle.sc_core_rules.specs.Selection.{Seen, IsGuide, ratio}
use Rattle.sc_core_rules.specs.Turn.{Run}
use Rattle.sc_core_rules.specs.Run.{IsRun, Grow, looks_of}
use Rattle.sc_core_laws.specs.TrueRows.{IsTrueRow}
use Rattle.sc_core_laws.specs.LeavesInTime.{WasPut, HasTurn, WasGivenBy, IsDeletedBy, last_turn}
use Rattle.sc_text_run_rules.specs.declared.run.FinderEnd.{FinderEnd}
use Rattle.sc_text_run_rules.specs.declared.run.FinderEnd.TheVariants.{Done, Stopped, Wide}
use Rattle.sc_text_run_rules.specs.declared.run.MarkRow.{MarkRow}
use Rattle.sc_text_run_rules.specs.RunValue.{VersionValue, RunValue, entries_of}
use Rattle.sc_worker.specs.declared.plan.Plan.{Plan}
use Rattle.sc_worker.specs.FinderList.{candidates_of, versions_of, IsWide, IsWork}

-- ---- versions

-- v is a version, and the rows tell it: its tables are over the symbols and have these entries, and its claims are the
-- input clauses of these numbers
pub record IsTold (problem : Stated) (rows : VersionValue) (v : ClaimedStructure) : Type 0 where
  pub version : IsVersion v
  pub over : AreTablesOf problem.symbols v.tables
  pub size : rows.size ≡ v.tables.size
  pub entries : rows.entries ≡ entries_of v.tables
  pub numbers : rows.claims ≡ map (λ (claim : Claim). claim.number) v.claims
  pub clauses : All (λ claim. numbered problem.inputs claim.number ≡ Some claim.clause) v.claims

-- ---- the proof and its marks

-- the row has the number of the line, the name of the version, and the mark of the line's clause in that
pub record IsMarkOf (name : VersionName) (v : ClaimedStructure) (n : ℕ) (line : Line) (row : MarkRow) : Type 0 where
  pub number : row.line ≡ n
  pub named : row.name ≡ name
  pub truth : IsMark v.tables line.clause row.truth

-- one row for each line, in order: its mark in the version of that name
pub record AreMarks (name : VersionName) (v : ClaimedStructure) (lines : List Line) (rows : List MarkRow) : Type 0 where
  pub one_each : length rows ≡ length lines
  pub each : (n : ℕ) (line : Line) (row : MarkRow) → numbered lines n ≡ Some line → numbered rows n ≡ Some row → IsMarkOf name v n line row

-- The lines are those put together for the empty clause that the run found. They are a proof, and the input clauses are
-- refuted. Their marks are those in the guide of the printed lists
pub record TellsProof (problem : Stated) (versions : Seen) (run : Run) (lines : List Line) (rows : List MarkRow) : Type 0 where
  pub goal : ℕ
  pub found : run.goal ≡ Some goal
  pub splice : IsSplice problem.inputs run.book.derived goal lines
  pub proof : IsProof problem.inputs lines
  pub refuted : IsRefuted problem.inputs
  pub name : VersionName
  pub guide : ClaimedStructure
  pub guides : IsGuide problem versions name guide
  pub marks : AreMarks name guide lines rows

-- no line and no mark
pub record TellsNoProof (lines : List Line) (rows : List MarkRow) : Type 0 where
  pub no_line : lines ≡ []
  pub no_mark : rows ≡ []

-- the proof of the run where that is the outcome, and otherwise none
abbrev pub TellsEnd : Stated → Seen → Run → Outcome → List Line → List MarkRow → Type 0
TellsEnd problem versions run outcome lines rows =
    Where (outcome ≡ Proof) (TellsProof problem versions run lines rows) (TellsNoProof lines rows)

-- ---- the run

-- each clause that was put in the set of support, and whose last turn came, was given or deleted by that turn
abbrev pub LeaveInTime : Stated → Seen → List GivenRow → List KeptRow → Type 0
LeaveInTime problem versions given kept =
    (n t : ℕ) → WasPut problem kept n t → HasTurn given (last_turn problem n t)
    → WasGivenBy given n (last_turn problem n t) ⊎ IsDeletedBy problem (looks_of given versions) n (last_turn problem n t)

-- The text tells the run over the looks at these versions that its given rows tell: its ratio, its rows of given and of
-- kept clauses, its outcome and, where that is one, its proof. Each given row tells of each finder how many versions were
-- seen, which are never fewer than before, and the mark of its clause in the version that it names. In the run every
-- clause leaves the set of support in time.
pub record Tells (problem : Stated) (versions : Seen) (text : RunValue) : Type 0 where
  pub run : Run
  pub is_run : IsRun problem (looks_of text.given versions) run
  pub grow : Grow (looks_of text.given versions)
  pub lists : AllZip (AllZip (IsTold problem)) text.lists versions
  pub ratio : text.ratio ≡ ratio problem
  pub given : text.given ≡ run.given
  pub true_rows : AllByRecursion (IsTrueRow problem versions run.book) text.given
  pub lengths : AllByRecursion (λ (row : GivenRow). length row.lengths ≡ length versions) text.given
  pub kept : text.kept ≡ run.book.kept
  pub outcome : run.ended ≡ Some text.outcome
  pub proof : TellsEnd problem versions run text.outcome text.proof text.marks
  pub in_time : LeaveInTime problem versions text.given text.kept

-- ---- a finder that works between the turns

-- the turns after which the run went on: each that wrote a row, but for one that ended the run
abbrev pub turns_went : Outcome → ℕ → ℕ
turns_went Proof rows = rows - 1
turns_went SosEmpty rows = rows
turns_went (GivenLimit n) rows = rows
turns_went (KeptLimit n) rows = rows
turns_went (WorkLimit n) rows = rows - 1

-- in its turn what was published for the candidates worked before it was seen, all of it
abbrev pub SeesAll : List (Option ClaimedStructure) → GivenRow → Type 0
SeesAll answers row = row.lengths ≡ length (versions_of (take (row.turn - 1) answers)) ∷ []

-- how the finder ends that worked so many of its candidates
abbrev pub EndsInline : Stated → Plan → ℕ → FinderEnd → Type 0
EndsInline problem plan worked end =
    Where (IsWide problem plan 1) (end ≡ Wide)
    (Where (worked ≡ length (candidates_of problem plan)) (end ≡ Done) (end ≡ Stopped))

-- After each turn after which the run went on, the one finder works its next candidate, if it has one and isn't wide, and
-- every turn sees all that was published before it.
pub record IsInline (problem : Stated) (plan : Plan) (text : RunValue) (versions : List ClaimedStructure) : Type 0 where
  pub worked : ℕ
  pub answers : List (Option ClaimedStructure)
  pub work : IsWork problem plan 1 worked answers
  pub many : (¬ IsWide problem plan 1) → worked ≡ min (turns_went text.outcome (length text.given)) (length (candidates_of problem plan))
  pub printed : versions ≡ versions_of answers
  pub looks : AllByRecursion (SeesAll answers) text.given
  pub end : FinderEnd
  pub ends : EndsInline problem plan worked end
  pub told : text.ends ≡ end ∷ []

-- The text records the run of a problem with one finder that works between the turns, whose list is printed: it tells the
-- run over the looks at that list.
pub record IsRecord (problem : Stated) (plan : Plan) (versions : Seen) (text : RunValue) : Type 0 where
  pub list : List ClaimedStructure
  pub one : versions ≡ list ∷ []
  pub tells : Tells problem versions text
  pub inline : IsInline problem plan text list
