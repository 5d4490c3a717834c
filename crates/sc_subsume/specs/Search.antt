-- The search for terms that take each literal of one list to a literal of another.
use Rattle.std.specs.Prelude.{◌≡◌, ◌≢◌, ◌<◌, ◌≤◌, ◌↔◌, ◌⊎◌, ℕ, zero, suc, ◌+◌, ◌-◌, ◌*◌, List, [], ◌∷◌, ◌++◌, map, length, take, drop, slice_get, All, Contains, Bool, true, false, Some}
use Rattle.std.specs.List.{AllByRecursion}
use Rattle.sc_term.specs.declared.Term.{Term}
use Rattle.sc_term.specs.declared.Literal.{Literal}
use Rattle.sc_term.specs.Clause.{literal_instance}
use Rattle.sc_term.specs.Substitution.{Substitution, literal_under}
use Rattle.sc_unify.specs.declared.bound.Binding.{Binding}
use Rattle.sc_unify.specs.Matching.{Gives, IsFunctional}
use Rattle.sc_subsume.specs.declared.bound.Bound.{Bound}
use Rattle.sc_subsume.specs.declared.order.Asked.{Asked}
use Rattle.sc_subsume.specs.declared.search.Branch.{Branch}

-- ---- what is asked

-- some terms take each literal of c to one of d
abbrev pub GoesInto : List Literal → List Literal → Type 0
GoesInto c d = (terms : List Term) × All (λ l. Contains d (literal_instance terms l)) c

abbrev pub literals : List Asked → List Literal
literals all = map (λ (one : Asked). one.literal.now) all

-- the two literals have the same sign and predicate
abbrev pub AreLike : Literal → Literal → Type 0
AreLike l m = (l.positive ≡ m.positive) × (l.pred ≡ m.pred)

-- ---- bindings

abbrev pub bindings : List Bound → List Binding
bindings bs = map (λ (b : Bound). record { variable = b.variable; term = b.term.now }) bs

-- the new list is the old one and maybe more
abbrev pub Extends : {X : Type 0} → List X → List X → Type 0
Extends {X} old new = (added : List X) × (new ≡ old ++ added)

-- ---- one literal

-- the substitution takes the literal to the one at the place
abbrev pub Hits : Substitution → Literal → List Literal → ℕ → Type 0
Hits s l d j = slice_get d j ≡ Some (literal_under s l)

-- the new bindings are the old ones and those that the literals ask for, or else nothing changed
pub record IsTaken (pattern target : Literal) (old new : List Bound) : Type 0 where
  pub extends : Extends old new
  pub same : (s : Substitution) → Gives s (bindings new) ↔ (Gives s (bindings old) × (literal_under s pattern ≡ target))
  pub functional : IsFunctional (bindings old) → IsFunctional (bindings new)

pub record IsRefused (pattern target : Literal) (old new : List Bound) : Type 0 where
  pub kept : new ≡ old
  pub never : (s : Substitution) → Gives s (bindings old) → literal_under s pattern ≢ target

abbrev pub Takes : Bool → Literal → Literal → List Bound → List Bound → Type 0
Takes true pattern target old new = IsTaken pattern target old new
Takes false pattern target old new = IsRefused pattern target old new

-- no place from the first on but before the end is hit
abbrev pub HitsNone : List Bound → Literal → List Literal → ℕ → ℕ → Type 0
HitsNone bound l d first end = (s : Substitution) → Gives s (bindings bound) → (k : ℕ) → first ≤ k → k < end → ¬ Hits s l d k

-- the place is the first that is hit, and the new bindings say how
pub record IsFirstPlace (l : Literal) (d : List Literal) (first place : ℕ) (old new : List Bound) : Type 0 where
  pub least : first ≤ place
  pub within : place < length d
  pub earlier : HitsNone old l d first place
  pub extends : Extends old new
  pub same : (s : Substitution) → Gives s (bindings new) ↔ (Gives s (bindings old) × Hits s l d place)
  pub functional : IsFunctional (bindings old) → IsFunctional (bindings new)

pub record HasNoPlace (l : Literal) (d : List Literal) (first : ℕ) (old new : List Bound) : Type 0 where
  pub kept : new ≡ old
  pub nowhere : HitsNone old l d first (length d)

-- ---- all literals, with the choices that are still to be tried

-- the first literal is taken to some place from the first on, and the others anywhere
abbrev pub Reaches : Substitution → List Literal → List Literal → ℕ → Type 0
Reaches s [] d first = Unit {0}
Reaches s (l ∷ ls) d first = ((k : ℕ) × (first ≤ k) × Hits s l d k) × AllByRecursion (λ l. (k : ℕ) × Hits s l d k) ls

-- some substitution that gives the bindings takes the literals from number i on into d
abbrev pub IsOpen : List Literal → List Literal → List Binding → ℕ → ℕ → Type 0
IsOpen c d bs i first = (s : Substitution) × Gives s bs × Reaches s (drop i c) d first

-- one of the choices, of which the first is for literal i, can be made otherwise
abbrev pub IsWaiting : List Literal → List Literal → List Binding → ℕ → List Branch → Type 0
IsWaiting c d bs i [] = ⊥
IsWaiting c d bs i (one ∷ more) = IsOpen c d (take one.bound bs) i (one.place + 1) ⊎ IsWaiting c d bs (i + 1) more

-- the numbers of bindings before each choice rise, from the first number to the last
abbrev pub AreRising : ℕ → List Branch → ℕ → Type 0
AreRising low [] now = low ≤ now
AreRising low (one ∷ more) now = (low ≤ one.bound) × AreRising one.bound more now

pub record IsSearch (c d : List Literal) (bound : List Bound) (choices : List Branch) (next : ℕ) : Type 0 where
  pub same : IsOpen c d [] 0 0 ↔ (IsOpen c d (bindings bound) (length choices) next ⊎ IsWaiting c d (bindings bound) 0 choices)
  pub functional : IsFunctional (bindings bound)
  pub rising : AreRising 0 choices (length bound)
  pub places : AllByRecursion (λ (one : Branch). one.place < length d) choices
  pub few : length choices ≤ length c
  pub within : next ≤ length d

-- ---- how much is left to try

-- what the choice of one literal counts for, with so many literals after it
unfoldable pub worth : ℕ → ℕ → ℕ
worth size zero = 1
worth size (suc n) = (size + 2) * worth size n

-- how much can still be tried, of n literals each of which has so many places
unfoldable pub left_to_try : ℕ → ℕ → List Branch → ℕ → ℕ
left_to_try size n [] next = (size + 1 - next) * worth size n
left_to_try size zero (one ∷ more) next = 0
left_to_try size (suc n) (one ∷ more) next = (size - one.place) * worth size (suc n) + left_to_try size n more next
