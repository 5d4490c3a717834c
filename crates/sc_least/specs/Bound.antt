-- The least-number bound: which elements the values of the first cells and the next cell use, and the bound of its value.
use Rattle.std.specs.Prelude.{ℕ, ◌+◌, ◌-◌, List, [], ◌∷◌, ◌++◌, Option, Some, None, map, min, length, slice_get}
use Rattle.sc_term.specs.Term.{largest}
use Rattle.sc_term.specs.declared.symbol.Role.{Role}
use Rattle.sc_term.specs.declared.symbol.Role.TheVariants.{Function, Predicate}
use Rattle.sc_term.specs.declared.symbol.Symbol.{Symbol}
use Rattle.sc_cells.specs.Cells.{Entry}

-- ---- used elements

abbrev pub used_as : Role → ℕ → List ℕ
used_as Function v = v ∷ []
used_as Predicate v = []

abbrev pub used_by : Option Symbol → ℕ → List ℕ
used_by None v = []
used_by (Some s) v = used_as s.role v

-- the value of a cell of a function is an element, that of a predicate isn't
abbrev pub used_by_value : List Symbol → Entry → ℕ → List ℕ
used_by_value sig cell v = used_by (slice_get sig cell.symbol) v

-- the indices of the cells that have values and of the next one, and the values of functions
abbrev pub used : List Symbol → List Entry → List ℕ → List ℕ
used sig [] values = []
used sig (cell ∷ cells) [] = cell.indices
used sig (cell ∷ cells) (v ∷ vs) = cell.indices ++ (used_by_value sig cell v ++ used sig cells vs)

-- 1 more than the greatest element, 0 where there is none
abbrev pub above : List ℕ → ℕ
above elements = largest (map (λ e. e + 1) elements)

-- ---- the bound

-- 0 where none is used, otherwise 1 more than the greatest, or the last element where that is less
abbrev pub first_unused : ℕ → List ℕ → ℕ
first_unused size [] = 0
first_unused size (e ∷ es) = min (size - 1) (1 + largest (e ∷ es))

abbrev pub bound_as : Role → ℕ → List ℕ → ℕ
bound_as Function size elements = first_unused size elements
bound_as Predicate size elements = 1

abbrev pub bound_by : Option Symbol → ℕ → List ℕ → ℕ
bound_by None size elements = 0
bound_by (Some s) size elements = bound_as s.role size elements

abbrev pub bound_of : List Symbol → ℕ → Option Entry → List ℕ → ℕ
bound_of sig size None elements = 0
bound_of sig size (Some cell) elements = bound_by (slice_get sig cell.symbol) size elements

-- the bound of the value of the cell after those that have values
abbrev pub least_number : List Symbol → ℕ → List Entry → List ℕ → ℕ
least_number sig size cells values = bound_of sig size (slice_get cells (length values)) (used sig cells values)
