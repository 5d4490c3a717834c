-- How a search for a model ends.
use Rattle.std.specs.Prelude.{◌≡◌, ◌+◌, ℕ, zero, suc, List, Option, Some, None, min}
use Rattle.sc_cells.specs.Cells.{Entry, Prefix}
use Rattle.sc_cells.specs.Order.{IsBefore}
use Rattle.sc_find.specs.declared.search.SearchEnd.{SearchEnd}
use Rattle.sc_find.specs.declared.search.SearchEnd.TheVariants.{Full, Exhausted, Spent}
use Rattle.sc_find.specs.Models.{Task, IsModel, ExceedsBudget}

-- the first value of cell 0: no cell has 8
abbrev pub first_of : Option ℕ → ℕ
first_of None = 0
first_of (Some v) = min v 8

-- where the values to try end of the cell of that number, which has so many and that bound: the piece's value has none
abbrev pub end_of : Option ℕ → ℕ → ℕ → ℕ → ℕ
end_of None k count bound = min count (bound + 1)
end_of (Some v) zero count bound = min count (v + 1)
end_of (Some v) (suc k) count bound = min count (bound + 1)

-- the values are those of the first model
pub record IsFirst (task : Task) (piece : Option ℕ) (cells : List Entry) (p : Prefix) : Type 0 where
  pub cells_kept : p.cells ≡ cells
  pub model : IsModel task piece cells p.values
  pub least : (others : List ℕ) → IsModel task piece cells others → ¬ IsBefore others p.values

abbrev pub HasEnded : Task → Option ℕ → ℕ → List Entry → Prefix → SearchEnd → Type 0
HasEnded task piece budget cells p Full = IsFirst task piece cells p
HasEnded task piece budget cells p Exhausted = (values : List ℕ) → ¬ IsModel task piece cells values
HasEnded task piece budget cells p Spent = ExceedsBudget task piece budget
