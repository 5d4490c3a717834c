-- Entries that make tables.
use Rattle.std.specs.Prelude.{◌≡◌, ◌<◌, ◌^◌, ℕ, List, All, length}
use Rattle.std.specs.List.{AllZip}
use Rattle.sc_term.specs.declared.symbol.Symbol.{Symbol}
use Rattle.sc_interp.specs.Structure.{values_below}

-- one for each list of as many elements as the symbol's arity, not too many to be numbered by 32 bits, each in range
pub record AreEntries (size : ℕ) (s : Symbol) (entries : List ℕ) : Type 0 where
  pub many : length entries ≡ size ^ s.arity
  pub few : length entries < 2 ^ 32
  pub below : All (λ e. e < values_below s.role size) entries

-- such a list for each symbol
abbrev pub AreEntriesOf : ℕ → List Symbol → List (List ℕ) → Type 0
AreEntriesOf size symbols entries = AllZip (AreEntries size) symbols entries
