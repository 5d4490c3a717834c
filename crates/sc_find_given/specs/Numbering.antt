-- Rows of a signature as its cells are numbered.
use Rattle.std.specs.Prelude.{◌≡◌, ◌<◌, ◌≤◌, ◌^◌, ◌-◌, ℕ, List, Option, Some, None, IsSomeAnd, All, AllPairs, map, length, replicate, slice_get, slice_set}
use Rattle.sc_term.specs.declared.SymId.{SymId}
use Rattle.sc_term.specs.declared.symbol.Symbol.{Symbol}
use Rattle.sc_cells.specs.declared.cells.Cell.{Cell}
use Rattle.sc_cells.specs.Cells.{Entry, cell_at}
use Rattle.sc_find_given.specs.declared.row.Row.{Row}
use Rattle.sc_find_given.specs.Lookup.{number_for}

-- the row of a symbol whose numbers are all the same
abbrev pub blank_row : ℕ → ℕ → Symbol → Row
blank_row size number s = record { arity = s.arity; numbers = replicate (size ^ s.arity) number }

-- the row fits the cell's arguments, with a number for each list of elements
pub record Fits (size : ℕ) (cell : Entry) (row : Row) : Type 0 where
  pub long : length cell.indices ≡ row.arity
  pub many : length row.numbers ≡ size ^ row.arity

-- the cell's symbol isn't `=` and has a row, and its arguments are elements
pub record HasRow (size : ℕ) (rows : List Row) (cell : Entry) : Type 0 where
  pub symbol : 0 < cell.symbol
  pub row : IsSomeAnd (slice_get rows (cell.symbol - 1)) (Fits size cell)
  pub elements : All (λ i. i < size) cell.indices

-- the cells are those of the entries, each of which has a row
pub record HaveRows (size : ℕ) (rows : List Row) (entries : List Entry) (cells : List Cell) : Type 0 where
  pub are : cells ≡ map (cell_at size) entries
  pub each : All (HasRow size rows) entries

-- no number in the rows is that of one of so many cells
abbrev pub AreBlank : ℕ → List Row → ℕ → Type 0
AreBlank size rows many = (f : SymId) (args : List ℕ) (n : ℕ) → number_for size rows f args ≡ Some n → many ≤ n

-- the cells differ
abbrev pub AreApart : List Entry → Type 0
AreApart cells = AllPairs (λ a b. ¬ (a ≡ b)) cells

-- the rows have the numbers of the first cells, so many, and of no other cell
pub record AreNumbered (many size : ℕ) (rows : List Row) (cells : List Entry) : Type 0 where
  pub there : (n : ℕ) (cell : Entry) → n < many → slice_get cells n ≡ Some cell → number_for size rows (record { 0 = cell.symbol }) cell.indices ≡ Some n
  pub right : (f : SymId) (args : List ℕ) (n : ℕ) → number_for size rows f args ≡ Some n → n < length cells
      → (n < many) × (slice_get cells n ≡ Some (record { symbol = f.0; indices = args }))

-- the rows with another number at a place of the row at a place in the list
abbrev pub with_number_in : List Row → ℕ → Option Row → ℕ → ℕ → List Row
with_number_in rows at_row None place number = rows
with_number_in rows at_row (Some row) place number = slice_set rows at_row (record row { numbers = slice_set row.numbers place number })
