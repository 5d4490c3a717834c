-- What tables have to do with a task: whether its clauses are true in them, and which of them come first.
use Rattle.std.specs.Prelude.{◌≡◌, ◌≤◌, ℕ, Option, None, List, All, map}
use Rattle.sc_term.specs.declared.Clause.{Clause}
use Rattle.sc_term.specs.Symbol.{IsSignature}
use Rattle.sc_input_rules.specs.Problem.{Stated}
use Rattle.sc_input_rules.specs.WellFormed.{IsOver, IsProblem}
use Rattle.sc_interp.specs.Structure.{Structure, IsStructure, AreTablesOf, Satisfies, entry}
use Rattle.sc_cells.specs.Order.{IsBefore}
use Rattle.sc_cells.specs.Cells.{Entry, AreCells}
use Rattle.sc_find.specs.Models.{Task, IsInPiece, FindsNoModel, IsFirstModel}

-- the task's symbols are a signature, and each symbol of its clauses is one of them, in its role and with its arity
pub record IsOverSignature (task : Task) : Type 0 where
  pub signature : IsSignature task.sig
  pub over : All (IsOver task.sig) task.clauses

-- the clauses are true in the tables
abbrev pub AreTrueIn : Structure → List Clause → Type 0
AreTrueIn t clauses = All (Satisfies t) clauses

-- tables of the task's size over its signature in which its clauses are true
pub record IsSatisfying (task : Task) (t : Structure) : Type 0 where
  pub structure : IsStructure t
  pub over : AreTablesOf task.sig t
  pub size : t.size ≡ task.size
  pub clauses : AreTrueIn t task.clauses

-- the entry that the tables have in a cell
abbrev pub entry_for : Structure → Entry → ℕ
entry_for t cell = entry t (record { 0 = cell.symbol }) cell.indices

-- those in the cells, one after another
abbrev pub entries_for : Structure → List Entry → List ℕ
entries_for t cells = map (entry_for t) cells

-- the tables belong to the piece, and by the entries in the cells in order, no tables of the piece in which the clauses
-- are true come before them
pub record ComesFirst (task : Task) (piece : Option ℕ) (t : Structure) : Type 0 where
  pub cells : List Entry
  pub are_cells : AreCells task.sig task.size cells
  pub in_piece : IsInPiece piece (entries_for t cells)
  pub least : (others : Structure) → IsSatisfying task others → IsInPiece piece (entries_for others cells) → ¬ IsBefore (entries_for others cells) (entries_for t cells)

-- an interpretation of that size is asked for in which the problem's input clauses are true
abbrev pub task_of : Stated → ℕ → Task
task_of problem size = record { sig = problem.symbols; clauses = problem.inputs; size = size }

-- ---- the laws

-- the clauses are true in the tables of the first model
abbrev pub FoundModelsAreTrue : Type 0
FoundModelsAreTrue = (task : Task) (piece : Option ℕ) (t : Structure) → IsOverSignature task → IsFirstModel task piece t → AreTrueIn t task.clauses

-- and no tables in which they are true come before it
abbrev pub FoundModelsComeFirst : Type 0
FoundModelsComeFirst = (task : Task) (piece : Option ℕ) (t : Structure) → IsOverSignature task → IsFirstModel task piece t → ComesFirst task piece t

-- where there is no model, the clauses are true in no tables of the size over the signature
abbrev pub NoModelMeansNone : Type 0
NoModelMeansNone = (task : Task) → IsOverSignature task → FindsNoModel task None → (t : Structure) → ¬ IsSatisfying task t

-- where a piece has no model, they are true in no tables of the piece
abbrev pub NoModelInPiece : Type 0
NoModelInPiece =
    (task : Task) (piece : Option ℕ) (cells : List Entry) → IsOverSignature task → AreCells task.sig task.size cells → FindsNoModel task piece
    → (t : Structure) → IsSatisfying task t → ¬ IsInPiece piece (entries_for t cells)

-- where they are true in no tables of the size, there is no model
abbrev pub NoTablesMeanNoModel : Type 0
NoTablesMeanNoModel = (task : Task) → IsOverSignature task → 1 ≤ task.size → task.size ≤ 8 → ((t : Structure) → ¬ IsSatisfying task t) → FindsNoModel task None

-- the same of a problem's input clauses
abbrev pub FoundModelsOfProblemsAreTrue : Type 0
FoundModelsOfProblemsAreTrue =
    (problem : Stated) (size : ℕ) (t : Structure) → IsProblem problem → IsFirstModel (task_of problem size) None t → AreTrueIn t problem.inputs

abbrev pub ProblemsWithoutModels : Type 0
ProblemsWithoutModels =
    (problem : Stated) (size : ℕ) → IsProblem problem → FindsNoModel (task_of problem size) None → (t : Structure) → ¬ IsSatisfying (task_of problem size) t
