-- What becomes of a search for a model of a problem's clauses at one size.
use Rattle.std.specs.Prelude.{◌≡◌, ◌<◌, ◌≤◌, ℕ, List, Option, None, min, ⊤}
use Rattle.sc_input_rules.specs.Problem.{Stated}
use Rattle.sc_interp.specs.Structure.{Structure, IsStructure}
use Rattle.sc_text_run_rules.specs.ModelText.{model_text}
use Rattle.sc_text_run_rules.specs.RunValue.{entries_of}
use Rattle.sc_cells.specs.Cells.{cell_count}
use Rattle.sc_cells.specs.Ground.{instance_count}
use Rattle.sc_find.specs.Models.{IsPiece, IsFirstModel, FindsNoModel, ExceedsBudget}
use Rattle.sc_find.specs.Answers.{NoneBefore}
use Rattle.sc_find_laws.specs.Meaning.{task_of, AreTrueIn, IsSatisfying}
use Rattle.sc_top.specs.declared.answer.Modelled.{Modelled}
use Rattle.sc_top.specs.declared.answer.Modelled.TheVariants as modelled

-- the tables are the first model of the problem's clauses, which are true in them, and the text is that of the tables
pub record HasModelText (problem : Stated) (size : ℕ) (text : List ℕ) : Type 0 where
  pub tables : Structure
  pub structure : IsStructure tables
  pub first : IsFirstModel (task_of problem size) None tables
  pub are_true : AreTrueIn tables problem.inputs
  pub printed : text ≡ model_text problem.symbols size (entries_of tables)

-- the problem's clauses have no model of the size: they aren't all true in any tables of it over the problem's symbols
pub record HasNoModelOfSize (problem : Stated) (size told : ℕ) : Type 0 where
  pub is_told : told ≡ size
  pub no_model : FindsNoModel (task_of problem size) None
  pub none : (t : Structure) → ¬ IsSatisfying (task_of problem size) t

-- at most 4,096 cells, and 200,000 instances
pub record MayBeSearched (problem : Stated) (size : ℕ) : Type 0 where
  pub cells : cell_count problem.symbols size ≤ 4096
  pub instances : instance_count problem.inputs size ≤ 200000

-- what becomes of the search: the first model is found; there is none; the budget is spent in a piece, before which no
-- piece has a model; or there are too many cells, or else too many instances
abbrev pub IsModelled : Stated → ℕ → ℕ → Modelled → Type 0
IsModelled problem size nodes (modelled.Found text) = HasModelText problem size text
IsModelled problem size nodes (modelled.NoModel told) = HasNoModelOfSize problem size told
IsModelled problem size nodes (modelled.Spent p) =
    NoneBefore (task_of problem size) p × ((piece : Option ℕ) × IsPiece (task_of problem size) p piece × ExceedsBudget (task_of problem size) piece nodes)
IsModelled problem size nodes (modelled.TooManyCells count) = (count ≡ cell_count problem.symbols size) × (4096 < cell_count problem.symbols size)
IsModelled problem size nodes (modelled.TooManyInstances count) =
    (cell_count problem.symbols size ≤ 4096) × (count ≡ min (instance_count problem.inputs size) 1000000000)
    × (200000 < instance_count problem.inputs size)
IsModelled problem size nodes (modelled.NoModelOfSizes from to) = ⊥
IsModelled problem size nodes (modelled.SpentSize s p) = ⊥

-- where the search was made, there were no more cells and instances than may be searched
abbrev pub IsWithin : Stated → ℕ → Modelled → Type 0
IsWithin problem size (modelled.Found text) = MayBeSearched problem size
IsWithin problem size (modelled.NoModel told) = MayBeSearched problem size
IsWithin problem size (modelled.Spent p) = MayBeSearched problem size
IsWithin problem size (modelled.TooManyCells count) = ⊤
IsWithin problem size (modelled.TooManyInstances count) = ⊤
IsWithin problem size (modelled.NoModelOfSizes from to) = ⊥
IsWithin problem size (modelled.SpentSize s p) = ⊥
