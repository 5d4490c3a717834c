-- The rule of a shelf, which each step on it keeps, and what each who has an end of it knows.
use Rattle.std.specs.Prelude.{◌≡◌, ℕ, List, [], Some, None, IfSome}
use mathlib.Core.Option.{some}
use lib.ListN.{get_elem?}
use Rattle.sc_shelf.specs.declared.store.Store.{Store}
use Rattle.sc_shelf.specs.declared.view.View.{View}
use Rattle.sc_shelf.specs.Entries.{StartsWith, AreEntries}

-- who comes new knows nothing
abbrev pub newcomer : View
newcomer = record { met = []; symbols = None }

-- what is known of the store by who took a step on it
abbrev pub sight : Store → View
sight x = record { met = x.entries; symbols = Some x.signature.value }

-- what is known is true of the store: its entries begin with those met, and its symbols are those known, if any are
pub record Knows (x : Store) (v : View) : Type 0 where
  pub met : StartsWith x.entries v.met
  pub named : IfSome v.symbols (λ symbols. symbols ≡ x.signature.value)

-- the rule: the entries are those of a shelf, and what each knows of it is true
pub record IsShelved (x : Store) (views : List View) : Type 0 where
  pub entries : AreEntries x.signature.value x.entries
  pub each : (seat : ℕ) (v : View) → get_elem? views seat ≡ some v → Knows x v

-- what a step tells who takes it: it then knows the store as it is after the step, of which what it knew is true, and
-- which keeps what every shelf keeps
pub record Sees (v : View) (x y : Store) (w : View) : Type 0 where
  pub now : w ≡ sight y
  pub before : Knows y v
  pub entries : AreEntries y.signature.value y.entries
