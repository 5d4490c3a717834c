-- What the two ends of a shelf keep.
use Rattle.std.specs.Prelude.{◌≡◌, ℕ, Bool, true, List, [], Option, Some, None, IfSome, length, option_map}
use Rattle.sc_term.specs.declared.symbol.Symbol.{Symbol}
use Rattle.sc_interp.specs.Versions.{ClaimedStructure}
use Rattle.sc_shelf.specs.declared.entry.Entry.{Entry}
use Rattle.sc_shelf.specs.declared.store.Store.{Store}
use Rattle.sc_shelf.specs.declared.view.View.{View}
use Rattle.sc_shelf.specs.Entries.{StartsWith, versions, AreEntries}
use Rattle.sc_shelf.specs.State.{Note}
use Rattle.sc_shelf.specs.Rule.{sight}

-- a press that shows this store, knows this, has these entries to show, and counted so many versions
pub record IsPress (x : Store) (v : View) (pending : List Entry) (count : ℕ) (whole : Bool) : Type 0 where
  pub knows : v ≡ sight x
  pub entries : AreEntries x.signature.value x.entries
  pub counted : count ≡ length (versions x.entries)
  pub ready : whole ≡ true → pending ≡ []

-- a reader that knows this, beside the versions that were copied through it
pub record IsSight (symbols : List Symbol) (v : View) (seen : List ClaimedStructure) : Type 0 where
  pub named : v.symbols ≡ Some symbols
  pub entries : AreEntries symbols v.met
  pub front : StartsWith (versions v.met) seen

-- a reader with what was copied through it: the symbols, the versions copied, and the entries met last
pub record SightState : Type 0 where
  pub symbols : List Symbol
  pub seen : List ClaimedStructure
  pub met : List Entry

-- the symbols that are known, none where no step was taken
abbrev pub symbols_known : Option (List Symbol) → List Symbol
symbols_known None = []
symbols_known (Some symbols) = symbols

-- what a reader's knowledge tells
abbrev pub note_of : View → Note
note_of v = record { symbols = symbols_known v.symbols; entries = v.met }

-- what was told, if it wasn't lost, is of a shelf over these symbols
abbrev pub IsNoteOver : List Symbol → Option Note → Type 0
IsNoteOver symbols told = IfSome told (λ note. note.symbols ≡ symbols)

-- the entries that the next look can't miss: those told, where something was learnt and not taken over yet, or those met
abbrev pub learnt_by : Option (Option Note) → List Entry → Option (List Entry)
learnt_by None met = Some met
learnt_by (Some told) met = option_map (λ note. note.entries) told
