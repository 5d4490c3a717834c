-- The smallest model of clauses among sizes in order, and why a size was too wide.
use Rattle.std.specs.Prelude.{◌≡◌, ◌<◌, ◌≤◌, ◌⊎◌, ℕ, List, None}
use Rattle.sc_term.specs.declared.Clause.{Clause}
use Rattle.sc_term.specs.declared.symbol.Symbol.{Symbol}
use Rattle.sc_cells.specs.Cells.{cell_count}
use Rattle.sc_cells.specs.Ground.{instance_count}
use Rattle.sc_find.specs.declared.answer.FoundAll.TheVariants as all
use Rattle.sc_find.specs.declared.answer.JobError.{JobError}
use Rattle.sc_find.specs.declared.answer.JobError.TheVariants as job
use Rattle.sc_find.specs.Models.{Task, FindsNoModel, IsFirstModel}
use Rattle.sc_find.specs.Answers.{AreFound, IsCauseOfJob}
use Rattle.sc_smallest.specs.declared.answer.Smallest.{Smallest}
use Rattle.sc_smallest.specs.declared.answer.Smallest.TheVariants as smallest
use Rattle.sc_smallest.specs.declared.answer.SmallestError.{SmallestError}
use Rattle.sc_smallest.specs.declared.answer.SmallestError.TheVariants as fault

-- the clauses over the signature, whose model is sought at one size after another
pub record Sought : Type 0 where
  pub sig : List Symbol
  pub clauses : List Clause

-- the task of one size
abbrev pub at_size : Sought → ℕ → Task
at_size sought size = record { sig = sought.sig; clauses = sought.clauses; size = size }

-- no size from the first one on has a model, up to that size, itself left out
abbrev pub NoneSmaller : Sought → ℕ → ℕ → Type 0
NoneSmaller sought from size = (s : ℕ) → from ≤ s → s < size → FindsNoModel (at_size sought s) None

-- neither the cells nor the instances of the size are too many
abbrev pub Fits : Sought → ℕ → Type 0
Fits sought size = (cell_count sought.sig size ≤ 4096) × (instance_count sought.clauses size ≤ 200000)

-- a size to which all from the first one on led: they fit, and have no model
pub record IsReached (sought : Sought) (from size : ℕ) : Type 0 where
  pub low : from ≤ size
  pub none : NoneSmaller sought from size
  pub fit : (s : ℕ) → from ≤ s → s < size → Fits sought s

-- what the searches found: the first model of the smallest size that has one; no model of any size; or a size that was
-- spent in that piece, which leaves open whether it has a model, and before which there is none
abbrev pub IsSmallest : Sought → ℕ → ℕ → ℕ → Smallest → Type 0
IsSmallest sought from to budget (smallest.Model t) =
    (size : ℕ) × (size ≤ to) × IsReached sought from size × IsFirstModel (at_size sought size) None t
IsSmallest sought from to budget smallest.None = (size : ℕ) → from ≤ size → size ≤ to → FindsNoModel (at_size sought size) None
IsSmallest sought from to budget (smallest.Spent size piece) =
    (size ≤ to) × IsReached sought from size × AreFound (at_size sought size) budget (all.Spent piece)

-- the error that the job of a size has instead
abbrev pub as_of_job : SmallestError → JobError
as_of_job (fault.Cells count) = job.Cells count
as_of_job (fault.Instances count) = job.Instances count
as_of_job fault.OutOfMemory = job.OutOfMemory

-- why that size couldn't be searched: its cells or its instances are too many; nothing is said where memory is wanting
abbrev pub IsCauseAt : Sought → ℕ → SmallestError → Type 0
IsCauseAt sought size error = IsCauseOfJob (cell_count sought.sig size) (instance_count sought.clauses size) (as_of_job error)

-- why there is no answer: the first size that doesn't fit, where no size before it has a model
abbrev pub IsTooWide : Sought → ℕ → ℕ → SmallestError → Type 0
IsTooWide sought from to error = (error ≡ fault.OutOfMemory) ⊎ ((size : ℕ) × (size ≤ to) × IsReached sought from size × IsCauseAt sought size error)
