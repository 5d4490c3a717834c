-- What becomes of a search for the smallest model of a problem's clauses among sizes in order.
use Rattle.std.specs.Prelude.{◌≡◌, ◌<◌, ◌≤◌, ℕ, List, Option, None, min}
use Rattle.sc_input_rules.specs.Problem.{Stated}
use Rattle.sc_interp.specs.Structure.{Structure}
use Rattle.sc_cells.specs.Cells.{cell_count}
use Rattle.sc_cells.specs.Ground.{instance_count}
use Rattle.sc_find.specs.Models.{IsPiece, FindsNoModel, ExceedsBudget}
use Rattle.sc_find.specs.Answers.{NoneBefore}
use Rattle.sc_find_laws.specs.Meaning.{task_of, IsSatisfying}
use Rattle.sc_smallest.specs.Smallest.{Sought, IsReached}
use Rattle.sc_top.specs.Models.{HasModelText}
use Rattle.sc_top.specs.declared.answer.Modelled.{Modelled}
use Rattle.sc_top.specs.declared.answer.Modelled.TheVariants as modelled

-- the problem's clauses over its symbols, of which a model is sought at one size after another
abbrev pub sought_of : Stated → Sought
sought_of problem = record { sig = problem.symbols; clauses = problem.inputs }

-- the text is that of the first model of a size up to the last one, and no smaller size from the first one on has a model
pub record HasSmallestText (problem : Stated) (from to : ℕ) (text : List ℕ) : Type 0 where
  pub size : ℕ
  pub most : size ≤ to
  pub reached : IsReached (sought_of problem) from size
  pub model : HasModelText problem size text

-- the problem's clauses have no model of these sizes: at none of them they are all true in any tables over the problem's
-- symbols
pub record HasNoModelOfSizes (problem : Stated) (from to told_from told_to : ℕ) : Type 0 where
  pub is_from : told_from ≡ from
  pub is_to : told_to ≡ to
  pub no_model : (size : ℕ) → from ≤ size → size ≤ to → FindsNoModel (task_of problem size) None
  pub none : (size : ℕ) → from ≤ size → size ≤ to → (t : Structure) → ¬ IsSatisfying (task_of problem size) t

-- a size up to the last one is too wide in that way, and no smaller size from the first one on is too wide or has a model
abbrev pub IsTooWideAt : Stated → ℕ → ℕ → (ℕ → Type 0) → Type 0
IsTooWideAt problem from to IsWide = (size : ℕ) × (size ≤ to) × IsReached (sought_of problem) from size × IsWide size

-- what becomes of the searches: the first model of the smallest size that has one is found; no size has one; the budget is
-- spent in a piece of a size, before which no piece of it has a model, and no smaller size; or the first size of which the
-- cells, or else the instances, are too many, and no smaller size has a model
abbrev pub IsSmallestFound : Stated → ℕ → ℕ → ℕ → Modelled → Type 0
IsSmallestFound problem from to nodes (modelled.Found text) = HasSmallestText problem from to text
IsSmallestFound problem from to nodes (modelled.NoModel size) = ⊥
IsSmallestFound problem from to nodes (modelled.Spent p) = ⊥
IsSmallestFound problem from to nodes (modelled.TooManyCells count) =
    IsTooWideAt problem from to (λ (size : ℕ). (count ≡ cell_count problem.symbols size) × (4096 < cell_count problem.symbols size))
IsSmallestFound problem from to nodes (modelled.TooManyInstances count) =
    IsTooWideAt problem from to (λ (size : ℕ). (cell_count problem.symbols size ≤ 4096) × (count ≡ min (instance_count problem.inputs size) 1000000000)
    × (200000 < instance_count problem.inputs size))
IsSmallestFound problem from to nodes (modelled.NoModelOfSizes told_from told_to) = HasNoModelOfSizes problem from to told_from told_to
IsSmallestFound problem from to nodes (modelled.SpentSize size p) =
    (size ≤ to) × IsReached (sought_of problem) from size
    × NoneBefore (task_of problem size) p × ((piece : Option ℕ) × IsPiece (task_of problem size) p piece × ExceedsBudget (task_of problem size) piece nodes)
