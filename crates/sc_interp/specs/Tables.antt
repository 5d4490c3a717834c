-- When tables are refused.
use Rattle.std.specs.Prelude.{◌≡◌, ◌<◌, ℕ}
use Rattle.sc_interp.specs.declared.tables.TablesError.{TablesError}
use Rattle.sc_interp.specs.declared.tables.TablesError.TheVariants.{TooWide, OutOfMemory}

-- what the error says of a number of entries: nothing, where memory is wanting
abbrev pub IsCauseOfTables : ℕ → TablesError → Type 0
IsCauseOfTables entries (TooWide count) = (count ≡ entries) × (1048576 < entries)
IsCauseOfTables entries OutOfMemory = Unit {0}
