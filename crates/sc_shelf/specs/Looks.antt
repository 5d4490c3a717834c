-- What looks that follow one another have seen.
use Rattle.std.specs.Prelude.{◌≡◌, ℕ, List, [], ◌∷◌, ◌++◌, map, length}
use Rattle.sc_term.specs.declared.symbol.Symbol.{Symbol}
use Rattle.sc_interp.specs.Structure.{AreTablesOf}
use Rattle.sc_interp.specs.Versions.{ClaimedStructure}
use Rattle.sc_shelf.specs.Entries.{StartsWith}
use Rattle.sc_shelf.specs.State.{WindowState}

-- the version's tables are over these symbols
abbrev pub IsOver : List Symbol → ClaimedStructure → Type 0
IsOver symbols v = AreTablesOf symbols v.tables

-- each of the lists begins with the one before it, the first with that front, and the whole list with the last
abbrev pub Rise : {X : Type 0} → List X → List (List X) → List X → Type 0
Rise front [] whole = StartsWith whole front
Rise front (xs ∷ lists) whole = StartsWith xs front × Rise xs lists whole

-- some looks came between: each of them told the length of what it saw, which begins with what the one before saw
pub record Looked (before now : WindowState) : Type 0 where
  pub sights : List (List ClaimedStructure)
  pub rise : Rise before.seen sights now.seen
  pub told : now.looks ≡ before.looks ++ map length sights
