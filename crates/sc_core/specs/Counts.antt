-- How many clauses a run has derived, kept and given.
use Rattle.std.specs.Prelude.{◌≡◌, ◌≤◌, ℕ, ◌+◌, Some, None, length}
use Rattle.sc_input_rules.specs.Problem.{Stated}
use Rattle.sc_core_rules.specs.declared.row.Outcome.TheVariants as outcome
use Rattle.sc_core_rules.specs.Book.{Book}
use Rattle.sc_core_rules.specs.Turn.{Run}

-- as many clauses were kept as were derived
abbrev pub HasKeptAll : Book → Type 0
HasKeptAll book = length book.derived ≡ length book.kept

-- each derived clause was kept while the run goes on; no more were given, and not many more kept, than may be; and a
-- proof has its goal
pub record IsCounted (problem : Stated) (run : Run) : Type 0 where
  pub all_kept : run.ended ≡ None → HasKeptAll run.book
  pub few_given : length run.given ≤ problem.params.max_given
  pub few_kept : length run.book.kept ≤ problem.params.max_kept + 100000
  pub goal : run.ended ≡ Some outcome.Proof → (n : ℕ) × (run.goal ≡ Some n)
