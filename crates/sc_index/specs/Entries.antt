-- The index as a list of literals with numbers.
use Rattle.std.specs.Prelude.{◌≡◌, ◌≢◌, ◌<◌, ◌^◌, ◌↔◌, ◌⊎◌, ℕ, zero, suc, List, [], ◌∷◌, length, slice_get, slice_set, Contains, Option, None, Some, Bool, true, false}
use Rattle.sc_term.specs.declared.Literal.{Literal}
use Rattle.sc_term.specs.Refuted.{atom_of}
use Rattle.sc_term.specs.Substitution.{Substitution, literal_under}
use Rattle.sc_index.specs.declared.entries.Entry.{Entry}
use Rattle.sc_index.specs.declared.entries.Wanted.{Wanted}
use Rattle.sc_index.specs.declared.entries.Wanted.TheVariants as wanted
use Rattle.sc_index.specs.declared.tree.Node.{Node}
use Rattle.sc_index.specs.Flat.{literal_cells}
use Rattle.sc_index.specs.Nodes.{Reaches, Holds, keys_of}

-- ---- what is asked

-- some terms in place of the pattern's variables make its atom the target's
abbrev pub HasInstance : Literal → Literal → Type 0
HasInstance pattern target = (s : Substitution) × (atom_of (literal_under s pattern) ≡ atom_of target)

-- the entry's literal has the sign of this one, and has it as an instance
abbrev pub IsGeneral : Literal → Entry → Type 0
IsGeneral l e = (e.literal.positive ≡ l.positive) × HasInstance e.literal l

-- the entry's literal has the sign of this one, and is an instance of it
abbrev pub IsInstance : Literal → Entry → Type 0
IsInstance l e = (e.literal.positive ≡ l.positive) × HasInstance l e.literal

abbrev pub IsWanted : Wanted → Literal → Entry → Type 0
IsWanted wanted.General l e = IsGeneral l e
IsWanted wanted.Instances l e = IsInstance l e

-- the numbers are those of the entries of which P holds
abbrev pub AreNumbers : (Entry → Type 0) → List Entry → List ℕ → Type 0
AreNumbers P entries numbers = (n : ℕ) → Contains numbers n ↔ ((e : Entry) × Contains entries e × (e.number ≡ n) × P e)

-- ---- entries in slots

-- the entries in slots that aren't empty
abbrev pub present : List (Option Entry) → List Entry
present [] = []
present (None ∷ slots) = present slots
present (Some e ∷ slots) = e ∷ present slots

-- the slot has the entry
abbrev pub HasEntry : List (Option Entry) → ℕ → Entry → Type 0
HasEntry slots slot e = slice_get slots slot ≡ Some (Some e)

-- the numbers are those of the entries in these slots of which P holds
abbrev pub AreNumbersAt : (Entry → Type 0) → List (Option Entry) → List ℕ → List ℕ → Type 0
AreNumbersAt P slots found numbers = (n : ℕ) → Contains numbers n ↔ ((slot : ℕ) × (e : Entry) × Contains found slot × HasEntry slots slot e × (e.number ≡ n) × P e)

-- the row of each entry leads from the first node to one that has its slot
pub record IsIndexed (nodes : List Node) (slots : List (Option Entry)) : Type 0 where
  pub root : 0 < length nodes
  pub each : (slot : ℕ) (e : Entry) → HasEntry slots slot e → (m : ℕ) × Reaches nodes 0 (keys_of (literal_cells e.literal)) m × Holds nodes m slot
  pub short : (slot : ℕ) (e : Entry) → HasEntry slots slot e → length (literal_cells e.literal) < 2 ^ 64

-- whether variables of the stored literals take terms, and whether those of the literal that is asked about do
abbrev pub stored_take : Wanted → Bool
stored_take wanted.General = true
stored_take wanted.Instances = false

abbrev pub asked_take : Wanted → Bool
asked_take wanted.General = false
asked_take wanted.Instances = true

-- ---- entries removed

-- the list without the elements that are equal to this one
abbrev pub IsWithout : Entry → List Entry → List Entry → Type 0
IsWithout this [] left = left ≡ []
IsWithout this (e ∷ es) left = ((e ≡ this) × IsWithout this es left) ⊎ ((e ≢ this) × (more : List Entry) × (left ≡ e ∷ more) × IsWithout this es more)

-- a slot that had the entry is empty, any other as it was
abbrev pub IsEmptied : Entry → Option Entry → Option Entry → Type 0
IsEmptied this old new = ((old ≡ Some this) × (new ≡ None)) ⊎ ((old ≢ Some this) × (new ≡ old))

-- that of the slot at the place, the others being as they were
abbrev pub IsEmptiedAt : Entry → ℕ → List (Option Entry) → List (Option Entry) → Type 0
IsEmptiedAt this at old new = ((slice_get old at ≡ Some (Some this)) × (new ≡ slice_set old at None)) ⊎ ((slice_get old at ≢ Some (Some this)) × (new ≡ old))

-- that of each of the first slots, the others being as they were
abbrev pub AreEmptied : Entry → ℕ → List (Option Entry) → List (Option Entry) → Type 0
AreEmptied this zero old new = new ≡ old
AreEmptied this (suc n) [] new = new ≡ []
AreEmptied this (suc n) (x ∷ old) [] = ⊥
AreEmptied this (suc n) (x ∷ old) (y ∷ new) = IsEmptied this x y × AreEmptied this n old new
