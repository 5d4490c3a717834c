-- What the answers of searches say.
use Rattle.std.specs.Prelude.{◌≡◌, ◌<◌, ◌≤◌, ◌-◌, ℕ, Option, Some, None, min, nat_eq, if◌then◌else◌}
use Rattle.sc_find.specs.declared.answer.Piece.{Piece}
use Rattle.sc_find.specs.declared.answer.Piece.TheVariants.{Whole, First}
use Rattle.sc_find.specs.declared.answer.Found.{Found}
use Rattle.sc_find.specs.declared.answer.Found.TheVariants as found
use Rattle.sc_find.specs.declared.answer.FoundAll.{FoundAll}
use Rattle.sc_find.specs.declared.answer.FoundAll.TheVariants as all
use Rattle.sc_find.specs.declared.answer.JobError.{JobError}
use Rattle.sc_find.specs.declared.answer.JobError.TheVariants.{Cells, Instances, OutOfMemory}
use Rattle.sc_find.specs.Models.{Task, IsPiece, FindsNoModel, IsFirstModel, ExceedsBudget}

-- the value that cell 0 has in what is asked for, if it has to have one
abbrev pub IsAsked : Task → Piece → Option ℕ → Type 0
IsAsked task Whole value = value ≡ None
IsAsked task (First p) value = IsPiece task p value

-- that value in the piece of that number, of a task with so many cells
abbrev pub value_in : Piece → ℕ → Option ℕ
value_in Whole cells = None
value_in (First p) cells = if nat_eq cells 0 then None else Some (p - 1)

abbrev pub IsFound : Task → Option ℕ → ℕ → Found → Type 0
IsFound task piece budget (found.Model t) = IsFirstModel task piece t
IsFound task piece budget found.None = FindsNoModel task piece
IsFound task piece budget found.Spent = ExceedsBudget task piece budget

-- no piece before that number has a model
abbrev pub NoneBefore : Task → ℕ → Type 0
NoneBefore task p = (q : ℕ) (piece : Option ℕ) → q < p → IsPiece task q piece → FindsNoModel task piece

abbrev pub AreFound : Task → ℕ → FoundAll → Type 0
AreFound task budget (all.Model t) = IsFirstModel task None t
AreFound task budget all.None = FindsNoModel task None
AreFound task budget (all.Spent p) = NoneBefore task p × ((piece : Option ℕ) × IsPiece task p piece × ExceedsBudget task piece budget)

-- what the error says of numbers of cells and instances: nothing, where memory is wanting
abbrev pub IsCauseOfJob : ℕ → ℕ → JobError → Type 0
IsCauseOfJob cells instances (Cells count) = (count ≡ cells) × (4096 < cells)
IsCauseOfJob cells instances (Instances count) = (cells ≤ 4096) × (count ≡ min instances 1000000000) × (200000 < instances)
IsCauseOfJob cells instances OutOfMemory = Unit {0}
