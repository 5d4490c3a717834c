-- Versions whose tables are those of their signature.
use Rattle.std.specs.Prelude.{◌≡◌, List, All}
use Rattle.sc_term.specs.declared.symbol.Symbol.{Symbol}
use Rattle.sc_interp.specs.Structure.{AreTablesOf}
use Rattle.sc_text_run_rules.specs.declared.run.VersionText.{VersionText}

-- the tables of the version have its size, and one stands for each symbol, in its role and with its arity
pub record HasTables (symbols : List Symbol) (v : VersionText) : Type 0 where
  pub over : AreTablesOf symbols v.tables
  pub size : v.tables.size ≡ v.size

-- so of each version of each finder
abbrev pub HaveTables : List Symbol → List (List VersionText) → Type 0
HaveTables symbols lists = All (All (HasTables symbols)) lists
