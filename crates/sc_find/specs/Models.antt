-- The first model of a size, and the count of nodes of a plain search for it.
use Rattle.std.specs.Prelude.{◌≡◌, ◌<◌, ◌≤◌, ◌+◌, ◌⊎◌, ℕ, List, [], ◌∷◌, Option, Some, None, All, AllPairs, length, slice_get, slice_index}
use Rattle.sc_term.specs.declared.Clause.{Clause}
use Rattle.sc_term.specs.declared.symbol.Symbol.{Symbol}
use Rattle.sc_interp.specs.Structure.{Structure, AreTablesOf, entry}
use Rattle.sc_cells.specs.Cells.{Entry, AreCells, AreValues, values_below, IsConsistent}
use Rattle.sc_cells.specs.Order.{IsBefore}

-- what is asked for: an interpretation of that size in which the clauses over the signature are true
pub record Task : Type 0 where
  pub sig : List Symbol
  pub clauses : List Clause
  pub size : ℕ

-- ---- pieces

-- the whole task, or the piece of it in which cell 0 has this value
abbrev pub IsInPiece : Option ℕ → List ℕ → Type 0
IsInPiece None values = Unit {0}
IsInPiece (Some v) [] = Unit {0}
IsInPiece (Some v) (first ∷ rest) = first ≡ v

-- pieces are numbered from 1 by the value of cell 0; a task without cells is one piece
abbrev pub IsPiece : Task → ℕ → Option ℕ → Type 0
IsPiece task p piece =
    (cells : List Entry) × AreCells task.sig task.size cells
    × (((cells ≡ []) × (p ≡ 1) × (piece ≡ None))
    ⊎ ((v : ℕ) × (first : Entry) × (rest : List Entry) × (cells ≡ first ∷ rest) × (v < values_below task.sig task.size first) × (p ≡ v + 1) × (piece ≡ Some v)))

-- ---- models

-- values for the first cells, one each, by which no instance of the clauses is false
pub record IsOpenPrefix (task : Task) (piece : Option ℕ) (cells : List Entry) (values : List ℕ) : Type 0 where
  pub no_longer : length values ≤ length cells
  pub in_range : AreValues task.sig task.size cells values
  pub in_piece : IsInPiece piece values
  pub consistent : IsConsistent task.clauses task.size (record { cells = cells; values = values })

-- such values for all cells
abbrev pub IsModel : Task → Option ℕ → List Entry → List ℕ → Type 0
IsModel task piece cells values = (length values ≡ length cells) × IsOpenPrefix task piece cells values

abbrev pub FindsNoModel : Task → Option ℕ → Type 0
FindsNoModel task piece = (cells : List Entry) (values : List ℕ) → AreCells task.sig task.size cells → ¬ IsModel task piece cells values

-- tables over the signature that have the values in the cells
pub record AreTablesWith (task : Task) (cells : List Entry) (values : List ℕ) (t : Structure) : Type 0 where
  pub over : AreTablesOf task.sig t
  pub size : t.size ≡ task.size
  pub each : (k : ℕ) (cell : Entry) → slice_get cells k ≡ Some cell → entry t (record { 0 = cell.symbol }) cell.indices ≡ slice_index values k

-- the tables of the model whose values come first
pub record IsFirstModel (task : Task) (piece : Option ℕ) (t : Structure) : Type 0 where
  pub cells : List Entry
  pub are_cells : AreCells task.sig task.size cells
  pub values : List ℕ
  pub model : IsModel task piece cells values
  pub least : (others : List ℕ) → IsModel task piece cells others → ¬ IsBefore others values
  pub tables : AreTablesWith task cells values t

-- ---- the plain count

-- values that a plain search enters: there are some, they are open, and no model comes before them
abbrev pub IsNode : Task → Option ℕ → List Entry → List ℕ → Type 0
IsNode task piece cells values =
    (0 < length values) × IsOpenPrefix task piece cells values
    × ((model : List ℕ) → IsModel task piece cells model → ¬ IsBefore model values)

-- there are more nodes than the budget
pub record ExceedsBudget (task : Task) (piece : Option ℕ) (budget : ℕ) : Type 0 where
  pub cells : List Entry
  pub are_cells : AreCells task.sig task.size cells
  pub nodes : List (List ℕ)
  pub rising : AllPairs IsBefore nodes
  pub only : All (IsNode task piece cells) nodes
  pub many : budget < length nodes
