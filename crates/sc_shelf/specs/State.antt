-- What contracts see of a press, of a window, and of what a press tells.
use Rattle.std.specs.Prelude.{◌≡◌, ℕ, Bool, true, List, [], Option, Some, None, IsSomeAnd}
use Rattle.sc_term.specs.declared.symbol.Symbol.{Symbol}
use Rattle.sc_interp.specs.Versions.{ClaimedStructure}
use Rattle.sc_shelf.specs.declared.entry.Entry.{Entry}
use Rattle.sc_shelf.specs.Entries.{StartsWith, versions, has_close}

-- a press: the symbols of its shelf, the entries that it has published, and whether no publish or close was refused
pub record PressState : Type 0 where
  pub symbols : List Symbol
  pub entries : List Entry
  pub whole : Bool

-- the published list of a press
abbrev pub listed : PressState → List ClaimedStructure
listed p = versions p.entries

-- the press was closed
abbrev pub is_closed : PressState → Bool
is_closed p = has_close p.entries

-- what a press tells: the symbols of its shelf, and its entries as they were then
pub record Note : Type 0 where
  pub symbols : List Symbol
  pub entries : List Entry

-- A window: the symbols of its shelf, the versions that it has seen, how many it had seen after each look that was Ok, the
-- entries that it met last, and the entries that its next look that is Ok can't miss. There are none of these where what
-- it learnt was lost: then no look is Ok.
pub record WindowState : Type 0 where
  pub symbols : List Symbol
  pub seen : List ClaimedStructure
  pub looks : List ℕ
  pub met : List Entry
  pub learnt : Option (List Entry)

-- the press of a new shelf
abbrev pub new_press : List Symbol → PressState
new_press symbols = record { symbols = symbols; entries = []; whole = true }

-- the window of a new shelf
abbrev pub new_window : List Symbol → WindowState
new_window symbols = record { symbols = symbols; seen = []; looks = []; met = []; learnt = Some [] }

-- what can't be missed stays so, and may grow; what was lost stays lost
abbrev pub StaysLearnt : Option (List Entry) → Option (List Entry) → Type 0
StaysLearnt None later = later ≡ None
StaysLearnt (Some es) later = IsSomeAnd later (λ now. StartsWith now es)
