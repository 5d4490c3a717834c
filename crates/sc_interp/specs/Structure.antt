-- Tables, and their reading as an interpretation whose elements are the numbers below their size.
use Rattle.std.specs.Prelude.{◌≡◌, ◌<◌, ◌≤◌, ℕ, ◌+◌, ◌-◌, ◌*◌, ◌^◌, List, Option, Some, None, IsSomeAnd, All, map, nat_eq, length, replicate, drop, slice_index, slice_set}
use Rattle.std.specs.List.{AllZip, fold, sum_by}
use Rattle.sc_term.specs.declared.SymId.{SymId}
use Rattle.sc_term.specs.declared.Clause.{Clause}
use Rattle.sc_term.specs.Numbering.{numbered}
use Rattle.sc_term.specs.Interpretation.{Meaning, IsTrueIn}
use Rattle.sc_term.specs.declared.symbol.Role.{Role}
use Rattle.sc_term.specs.declared.symbol.Role.TheVariants.{Function, Predicate}
use Rattle.sc_term.specs.declared.symbol.Symbol.{Symbol}
use Rattle.sc_interp.specs.declared.table.Table.{Table}

-- a number of elements, and the table of each symbol other than `=`, symbol 1 first
pub record Structure : Type 0 where
  pub size : ℕ
  pub tables : List Table

-- ---- what every structure keeps

-- entries of a function are elements, those of a predicate 0 (false) or 1 (true)
abbrev pub values_below : Role → ℕ → ℕ
values_below Function size = size
values_below Predicate size = 2

-- one entry for each list of as many elements as the arity, each in range
pub record IsTable (size : ℕ) (table : Table) : Type 0 where
  pub many : length table.entries ≡ size ^ table.arity
  pub in_range : All (λ e. e < values_below table.role size) table.entries

-- 1 to 8 elements, and tables of that size
pub record IsStructure (t : Structure) : Type 0 where
  pub not_empty : 1 ≤ t.size
  pub small : t.size ≤ 8
  pub each : All (IsTable t.size) t.tables

-- ---- entries

-- the place of the entry of these arguments
abbrev pub place_of : ℕ → List ℕ → ℕ
place_of size values = fold (λ at_place v. size * at_place + v) 0 values

-- the entry at a place of a table, 0 where there is none
abbrev pub entry_in : Option Table → ℕ → ℕ
entry_in None place = 0
entry_in (Some table) place = slice_index table.entries place

-- the entry at a place of the symbol's table, 0 where there is none
abbrev pub entry_at : Structure → SymId → ℕ → ℕ
entry_at t s place = entry_in (numbered t.tables s.0) place

-- the entry of the symbol for these arguments
abbrev pub entry : Structure → SymId → List ℕ → ℕ
entry t s values = entry_at t s (place_of t.size values)

-- the symbol has a table with that place
abbrev pub HasPlace : Structure → SymId → ℕ → Type 0
HasPlace t s place = IsSomeAnd (numbered t.tables s.0) (λ table. place < length table.entries)

-- the value may stand in the symbol's table
abbrev pub MayHold : Structure → SymId → ℕ → Type 0
MayHold t s value = IsSomeAnd (numbered t.tables s.0) (λ table. value < values_below table.role t.size)

-- the tables with another entry, at that place of the table at a place in the list
abbrev pub with_entry_in : List Table → ℕ → Option Table → ℕ → ℕ → List Table
with_entry_in tables at_table None place value = tables
with_entry_in tables at_table (Some table) place value =
    slice_set tables at_table (record table { entries = slice_set table.entries place value })

-- the structure with another entry of the symbol at a place
abbrev pub with_entry : Structure → SymId → ℕ → ℕ → Structure
with_entry t s place value = record t { tables = with_entry_in t.tables (s.0 - 1) (numbered t.tables s.0) place value }

-- ---- truth

-- functions have their entries as values, and predicates are true where their entry is 1
abbrev pub meaning_of : Structure → Meaning
meaning_of t = record { function = entry t; predicate = λ p values. nat_eq (entry t p values) 1 }

-- what symbols mean by these tables
abbrev pub tables_of_size : ℕ → List Table → Meaning
tables_of_size size tables = meaning_of (record { size = size; tables = tables })

-- the clause is true under every assignment
abbrev pub Satisfies : Structure → Clause → Type 0
Satisfies t c = IsTrueIn (λ n. n < t.size) (meaning_of t) c

-- ---- structures over a signature

-- the table has the symbol's role and arity
pub record IsTableOf (symbol : Symbol) (table : Table) : Type 0 where
  pub role : table.role ≡ symbol.role
  pub arity : table.arity ≡ symbol.arity

-- each symbol other than `=` has a table in its role and with its arity, and there are no more
abbrev pub AreTablesOf : List Symbol → Structure → Type 0
AreTablesOf symbols t = AllZip IsTableOf (drop 1 symbols) t.tables

-- how many entries the tables of a signature have
abbrev pub entry_count : List Symbol → ℕ → ℕ
entry_count symbols size = sum_by (λ (s : Symbol). size ^ s.arity) (drop 1 symbols)

-- the table of the symbol whose entries are all 0
abbrev pub zero_table : ℕ → Symbol → Table
zero_table size s = record { role = s.role; arity = s.arity; entries = replicate (size ^ s.arity) 0 }

-- the structure of that size over the symbols whose entries are all 0
abbrev pub zeros : List Symbol → ℕ → Structure
zeros symbols size = record { size = size; tables = map (zero_table size) (drop 1 symbols) }
