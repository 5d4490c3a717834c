-- What becomes of a search for a model of a problem's clauses.
use Rattle.std.proofs.Common.{rules, ◌≡◌, ◌∙◌, ap, subst, refl, inl, inr, ℕ, List}
use Rattle.std.specs.Prelude.{Option, None}
use Rattle.sc_term.specs.declared.Clause.{Clause}
use Rattle.sc_term.specs.declared.symbol.Symbol.{Symbol}
use Rattle.sc_input_rules.specs.Problem.{Stated}
use Rattle.sc_input_rules.specs.WellFormed.{IsProblem}
use Rattle.sc_interp.specs.Structure.{Structure, IsStructure}
use Rattle.sc_text_run_rules.specs.ModelText.{model_text}
use Rattle.sc_text_run_rules.specs.RunValue.{entries_of}
use Rattle.sc_find.specs.Models.{Task, IsPiece, IsFirstModel, FindsNoModel, ExceedsBudget}
use Rattle.sc_find.specs.Answers.{NoneBefore, AreFound}
use Rattle.sc_find.specs.declared.answer.FoundAll.{FoundAll}
use Rattle.sc_find.specs.declared.answer.FoundAll.TheVariants as all
use Rattle.sc_find_laws.specs.Meaning.{task_of}
use Rattle.sc_find_laws.proofs.ModelLaws.{found_models_of_problems_true, problems_without}
use Rattle.sc_smallest.specs.Smallest.{Sought, IsSmallest, IsTooWide}
use Rattle.sc_smallest.specs.declared.answer.Smallest.TheVariants as smallest
use Rattle.sc_smallest.specs.declared.answer.SmallestError.TheVariants as fault
use Rattle.sc_top.specs.declared.answer.Modelled.TheVariants as modelled
use Rattle.sc_top.specs.Models.{HasModelText, HasNoModelOfSize}
use Rattle.sc_top.specs.Smallest.{sought_of, HasSmallestText, HasNoModelOfSizes, IsSmallestFound}

pub has_text : (problem : Stated) (size : ℕ) (t : Structure) (text : List ℕ) → IsProblem problem → IsStructure t → IsFirstModel (task_of problem size) None t
    → text ≡ model_text problem.symbols t.size (entries_of t) → HasModelText problem size text
has_text problem size t text is structure first printed = record {
  tables = t;
  structure = structure;
  first = first;
  are_true = found_models_of_problems_true problem size t is first;
  printed = printed ∙ ap (λ (n : ℕ). model_text problem.symbols n (entries_of t)) first.tables.size;
}

pub has_none : (problem : Stated) (size : ℕ) → IsProblem problem → FindsNoModel (task_of problem size) None → HasNoModelOfSize problem size size
has_none problem size is none = record { is_told = refl; no_model = none; none = problems_without problem size is none }

-- what the search over the pieces of the task tells of the problem
pub none_found : (problem : Stated) (size nodes : ℕ) (task : Task) (found : FoundAll) → IsProblem problem → task ≡ task_of problem size → AreFound task nodes found
    → found ≡ all.None → HasNoModelOfSize problem size size
none_found problem size nodes task found is of h told = has_none problem size is (subst (λ (t : Task). FindsNoModel t None) of (subst (AreFound task nodes) told h))

pub spent_found : (problem : Stated) (size nodes p : ℕ) (task : Task) (found : FoundAll) → task ≡ task_of problem size → AreFound task nodes found → found ≡ all.Spent p
    → NoneBefore (task_of problem size) p × ((piece : Option ℕ) × IsPiece (task_of problem size) p piece × ExceedsBudget (task_of problem size) piece nodes)
spent_found problem size nodes p task found of h told =
    subst (λ (t : Task). NoneBefore t p × ((piece : Option ℕ) × IsPiece t p piece × ExceedsBudget t piece nodes)) of (subst (AreFound task nodes) told h)

-- ---- the smallest model

-- the problem's symbols and clauses, however they were handed on
pub of_problem : (problem : Stated) (sig : List Symbol) (clauses : List Clause) (P : Sought → Type 0) → sig ≡ problem.symbols → clauses ≡ problem.inputs
    → P (record { sig = sig; clauses = clauses }) → P (sought_of problem)
of_problem problem sig clauses P s c h = subst (λ (xs : List Clause). P (record { sig = problem.symbols; clauses = xs })) c (subst (λ (xs : List Symbol). P (record { sig = xs; clauses = clauses })) s h)

pub smallest_text : (problem : Stated) (from to nodes : ℕ) (t : Structure) (text : List ℕ) → IsProblem problem → IsStructure t
    → IsSmallest (sought_of problem) from to nodes (smallest.Model t) → text ≡ model_text problem.symbols t.size (entries_of t) → HasSmallestText problem from to text
smallest_text problem from to nodes t text is structure (size, most, reached, first) printed = record {
  size = size;
  most = most;
  reached = reached;
  model = has_text problem size t text is structure first printed;
}

pub smallest_none : (problem : Stated) (from to nodes : ℕ) → IsProblem problem → IsSmallest (sought_of problem) from to nodes smallest.None → HasNoModelOfSizes problem from to from to
smallest_none problem from to nodes is h = record {
  is_from = refl;
  is_to = refl;
  no_model = h;
  none = λ size low most. problems_without problem size is (h size low most);
}

-- what a size that is too wide is told as
pub told_cells : (problem : Stated) (from to nodes count : ℕ) → IsTooWide (sought_of problem) from to (fault.Cells count) → IsSmallestFound problem from to nodes (modelled.TooManyCells count)
told_cells problem from to nodes count (inl e) = absurd (search rules)
told_cells problem from to nodes count (inr h) = h

pub told_instances : (problem : Stated) (from to nodes count : ℕ) → IsTooWide (sought_of problem) from to (fault.Instances count) → IsSmallestFound problem from to nodes (modelled.TooManyInstances count)
told_instances problem from to nodes count (inl e) = absurd (search rules)
told_instances problem from to nodes count (inr h) = h
