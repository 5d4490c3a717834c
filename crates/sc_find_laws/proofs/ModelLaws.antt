-- A model is true in its tables; and the entries of tables in which all clauses are true are a model.
use Rattle.std.proofs.Common.{◌≡◌, sym, subst, ℕ, ◌≤◌, List, length, None, Option, arith}
use Rattle.std.proofs.lemmas.List.{length-map}
use Rattle.std.proofs.lemmas.List.Elements.{All-from_recursion, All-weaker}
use Rattle.sc_input_rules.specs.Problem.{Stated}
use Rattle.sc_input_rules.specs.WellFormed.{IsInput, IsOver, IsProblem}
use Rattle.sc_interp.specs.Structure.{Structure}
use Rattle.sc_cells.specs.Cells.{Entry, AreCells}
use Rattle.sc_cells.specs.Listing.{all_entries}
use Rattle.sc_cells.proofs.CellLaws.{cells_in_order}
use Rattle.sc_cells.specs.Order.{IsBefore}
use Rattle.sc_find.specs.Models.{Task, IsInPiece, IsModel, AreTablesWith}
use Rattle.sc_find_laws.specs.Meaning.{IsOverSignature, AreTrueIn, IsSatisfying, entry_for, entries_for, task_of, FoundModelsAreTrue, FoundModelsComeFirst, NoModelMeansNone, NoModelInPiece, NoTablesMeanNoModel, FoundModelsOfProblemsAreTrue, ProblemsWithoutModels}
use Rattle.sc_find_laws.proofs.FalseLaws.{consistent_is_true, true_is_consistent}
use Rattle.sc_find_laws.proofs.TableLaws.{tables_have, entries_each, entries_are, entries_are_values}
use Rattle.sc_find_laws.proofs.BuildLaws.{built, built_structure, built_tables}

-- a model is true in tables that have its values
pub model_is_true : (task : Task) (piece : Option ℕ) (cells : List Entry) (values : List ℕ) (t : Structure) → IsOverSignature task
    → AreCells task.sig task.size cells → IsModel task piece cells values → AreTablesWith task cells values t → AreTrueIn t task.clauses
model_is_true task piece cells values t over are_cells model tables =
    let has = tables_have task.sig task.size cells values are_cells model.0 model.1.in_range t tables.size tables.each in
    consistent_is_true task.sig task.size (record { cells = cells; values = values }) t over.signature has task.clauses over.over model.1.consistent

-- the entries of tables in which the clauses are true are a model
pub entries_are_model : (task : Task) (piece : Option ℕ) (cells : List Entry) (t : Structure) → IsOverSignature task → AreCells task.sig task.size cells
    → IsSatisfying task t → IsInPiece piece (entries_for t cells) → IsModel task piece cells (entries_for t cells)
entries_are_model task piece cells t over are_cells s in_piece =
    let values = entries_for t cells in
    let long : length values ≡ length cells = length-map cells (entry_for t) in
    let are_values = entries_are_values task.sig task.size t s.structure s.over s.size cells are_cells in
    let has = tables_have task.sig task.size cells values are_cells long are_values t s.size (entries_each t cells) in (
      long,
      record {
        no_longer = omega arith;
        in_range = are_values;
        in_piece = in_piece;
        consistent = true_is_consistent task.sig task.size (record { cells = cells; values = values }) t over.signature has task.clauses over.over s.clauses;
      },
    )

-- ---- the laws

pub found_models_true : FoundModelsAreTrue
found_models_true task piece t over first = model_is_true task piece first.cells first.values t over first.are_cells first.model first.tables

pub found_models_first : FoundModelsComeFirst
found_models_first task piece t over first =
    let same : entries_for t first.cells ≡ first.values = entries_are t first.cells first.values first.model.0 first.tables.each in
    record {
      cells = first.cells;
      are_cells = first.are_cells;
      in_piece = subst (IsInPiece piece) (sym same) first.model.1.in_piece;
      least = λ others s in_piece before.
          first.least (entries_for others first.cells) (entries_are_model task piece first.cells others over first.are_cells s in_piece)
          (subst (IsBefore (entries_for others first.cells)) same before);
    }

pub no_model_in_piece : NoModelInPiece
no_model_in_piece task piece cells over are_cells none t s in_piece = none cells (entries_for t cells) are_cells (entries_are_model task piece cells t over are_cells s in_piece)

pub no_model_none : NoModelMeansNone
no_model_none task over none t s =
    let some : 1 ≤ task.size = subst (λ n. 1 ≤ n) s.size s.structure.not_empty in
    no_model_in_piece task None (all_entries task.sig task.size) over (cells_in_order task.sig task.size some) none t s tt

pub no_tables_no_model : NoTablesMeanNoModel
no_tables_no_model task over some small none cells values are_cells model =
    let t = built task.sig task.size cells values in
    let tables = built_tables task cells values are_cells model.0 model.1.in_range some in
    none t (record {
      structure = built_structure task.sig task.size cells values are_cells model.0 model.1.in_range some small;
      over = tables.over;
      size = tables.size;
      clauses = model_is_true task None cells values t over are_cells model tables;
    })

-- the clauses of a problem are over its signature
pub problem_over : (problem : Stated) (size : ℕ) → IsProblem problem → IsOverSignature (task_of problem size)
problem_over problem size h = record {
  signature = h.signature;
  over = All-weaker (IsInput problem.symbols) (IsOver problem.symbols) (λ c i. i.over) problem.inputs (All-from_recursion (IsInput problem.symbols) problem.inputs h.inputs);
}

pub found_models_of_problems_true : FoundModelsOfProblemsAreTrue
found_models_of_problems_true problem size t h first = found_models_true (task_of problem size) None t (problem_over problem size h) first

pub problems_without : ProblemsWithoutModels
problems_without problem size h none t s = no_model_none (task_of problem size) (problem_over problem size h) none t s
