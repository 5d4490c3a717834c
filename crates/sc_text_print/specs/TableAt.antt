-- The row of one table.
use Rattle.std.specs.Prelude.{ℕ, List, [], Option, Some, None}
use Rattle.sc_term.specs.declared.symbol.Symbol.{Symbol}
use Rattle.sc_text_run_rules.specs.ModelText.{table_row}

-- the row of a symbol with these entries, nothing without a symbol
abbrev pub row_of : Option Symbol → List ℕ → List ℕ
row_of None entries = []
row_of (Some s) entries = table_row s entries
