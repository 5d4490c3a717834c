-- Tables with other entries.
use Rattle.std.specs.Prelude.{◌≡◌, ◌<◌, ◌-◌, ◌++◌, ℕ, List, [], ◌∷◌, Option, Some, None, All, length, take, drop, slice_set}
use Rattle.std.specs.List.{AllZip}
use Rattle.sc_term.specs.declared.SymId.{SymId}
use Rattle.sc_term.specs.Numbering.{numbered}
use Rattle.sc_interp.specs.Structure.{Structure, values_below}
use Rattle.sc_interp.specs.declared.table.Table.{Table}

-- as many entries as the table has, each of which may stand there
pub record MayFill (size : ℕ) (table : Table) (entries : List ℕ) : Type 0 where
  pub many : length entries ≡ length table.entries
  pub below : All (λ e. e < values_below table.role size) entries

-- such a list for each table
abbrev pub MayFillAll : ℕ → List Table → List (List ℕ) → Type 0
MayFillAll size tables rows = AllZip (MayFill size) tables rows

-- the table with the first of these entries at its first places
abbrev pub filled_up_to : ℕ → Table → List ℕ → Table
filled_up_to n table entries = record table { entries = take n entries ++ drop n table.entries }

-- so the symbol's table, and the others as they were
abbrev pub with_first : Option Table → Structure → SymId → ℕ → List ℕ → Structure
with_first None t s n entries = t
with_first (Some table) t s n entries = record t { tables = slice_set t.tables (s.0 - 1) (filled_up_to n table entries) }

-- the tables with these entries at the symbol
abbrev pub with_entries : Structure → SymId → List ℕ → Structure
with_entries t s entries = with_first (numbered t.tables s.0) t s (length entries) entries

-- tables with these rows as their entries, the first row for the first table
abbrev pub filled : List Table → List (List ℕ) → List Table
filled [] rows = []
filled (t ∷ ts) [] = t ∷ ts
filled (t ∷ ts) (es ∷ rows) = record t { entries = es } ∷ filled ts rows
