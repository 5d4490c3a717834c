-- What stands on a shelf: versions in the order in which they were published, and behind them, once it is closed, Close.
use Rattle.std.specs.Prelude.{◌≡◌, ◌≤◌, ◌^◌, List, [], ◌∷◌, All, Bool, true, false, take, length}
use Rattle.sc_term.specs.declared.symbol.Symbol.{Symbol}
use Rattle.sc_interp.specs.Structure.{AreTablesOf}
use Rattle.sc_interp.specs.Versions.{ClaimedStructure, IsVersion}
use Rattle.sc_shelf.specs.declared.entry.Entry.{Entry}
use Rattle.sc_shelf.specs.declared.entry.Entry.TheVariants.{Published, Close}

-- the list begins with that front
abbrev pub StartsWith : {X : Type 0} → List X → List X → Type 0
StartsWith {X} xs front = take (length front) xs ≡ front

-- the versions among the entries
abbrev pub versions : List Entry → List ClaimedStructure
versions [] = []
versions (Published v ∷ es) = v ∷ versions es
versions (Close ∷ es) = versions es

-- Close is among the entries: the shelf is closed
abbrev pub has_close : List Entry → Bool
has_close [] = false
has_close (Published v ∷ es) = has_close es
has_close (Close ∷ es) = true

-- there is no entry
abbrev pub is_nothing : List Entry → Bool
is_nothing [] = true
is_nothing (e ∷ es) = false

-- Close stands nowhere but as the last
abbrev pub closes_last : List Entry → Bool
closes_last [] = true
closes_last (Published v ∷ es) = closes_last es
closes_last (Close ∷ es) = is_nothing es

-- a version, whose claims are true in its tables, and whose tables are over these symbols
pub record IsVersionOver (symbols : List Symbol) (v : ClaimedStructure) : Type 0 where
  pub version : IsVersion v
  pub over : AreTablesOf symbols v.tables

-- what the entries of every shelf over these symbols keep
pub record AreEntries (symbols : List Symbol) (es : List Entry) : Type 0 where
  pub last : closes_last es ≡ true
  pub each : All (IsVersionOver symbols) (versions es)
  pub few : length (versions es) ≤ 2 ^ 31
