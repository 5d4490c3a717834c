-- Values for all cells, and what the bound of each of them loses: no first model.
use Rattle.std.specs.Prelude.{◌≡◌, ◌≤◌, ◌<◌, ℕ, List, ◌∷◌, ◌++◌, All, length}
use Rattle.sc_term.specs.declared.Clause.{Clause}
use Rattle.sc_term.specs.declared.symbol.Symbol.{Symbol}
use Rattle.sc_input_rules.specs.WellFormed.{IsOver}
use Rattle.sc_cells.specs.Cells.{Entry, AreCells, AreValues, IsConsistent}
use Rattle.sc_cells.specs.Order.{IsBefore}
use Rattle.sc_least.specs.Bound.{least_number}

-- a value for each cell, in its range, by which no instance of the clauses is false
pub record IsFull (sig : List Symbol) (clauses : List Clause) (size : ℕ) (cells : List Entry) (values : List ℕ) : Type 0 where
  pub many : length values ≡ length cells
  pub in_range : AreValues sig size cells values
  pub consistent : IsConsistent clauses size (record { cells = cells; values = values })

-- ---- the laws

-- where values begin a full list, they begin one whose next value is at most the bound
abbrev pub BeginsWithinBound : Type 0
BeginsWithinBound =
    (sig : List Symbol) (clauses : List Clause) (size : ℕ) (cells : List Entry) (front rest : List ℕ)
    → AreCells sig size cells → All (IsOver sig) clauses → length front < length cells → IsFull sig clauses size cells (front ++ rest)
    → (v : ℕ) × (more : List ℕ) × (v ≤ least_number sig size cells front) × IsFull sig clauses size cells (front ++ v ∷ more)

-- in the first of the full lists that begin with some fixed values, each value after these is at most its bound
abbrev pub FirstIsWithinBound : Type 0
FirstIsWithinBound =
    (sig : List Symbol) (clauses : List Clause) (size : ℕ) (cells : List Entry) (fixed front rest : List ℕ) (v : ℕ)
    → AreCells sig size cells → All (IsOver sig) clauses → IsFull sig clauses size cells (fixed ++ (front ++ v ∷ rest))
    → ((others : List ℕ) → IsFull sig clauses size cells (fixed ++ others) → ¬ IsBefore others (front ++ v ∷ rest))
    → v ≤ least_number sig size cells (fixed ++ front)

-- where no full list goes on with a value up to the bound, none goes on at all
abbrev pub NoneWithinBoundMeansNone : Type 0
NoneWithinBoundMeansNone =
    (sig : List Symbol) (clauses : List Clause) (size : ℕ) (cells : List Entry) (front rest : List ℕ)
    → AreCells sig size cells → All (IsOver sig) clauses → length front < length cells
    → ((v : ℕ) (more : List ℕ) → v ≤ least_number sig size cells front → ¬ IsFull sig clauses size cells (front ++ v ∷ more))
    → ¬ IsFull sig clauses size cells (front ++ rest)
