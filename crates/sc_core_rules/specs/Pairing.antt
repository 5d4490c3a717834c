-- Literals of several parents, taken by their numbers and set against each other.
use Rattle.std.specs.Prelude.{◌≡◌, ℕ, ◌+◌, List, [], ◌∷◌, Option, Some, None, All, not, map}
use Rattle.sc_term.specs.declared.Literal.{Literal}
use Rattle.sc_term.specs.declared.Clause.{Clause}
use Rattle.sc_term.specs.Numbering.{numbered}
use Rattle.sc_term.specs.declared.Pair.{Pair}

-- a parent and a literal of it, both numbered from 1
pub record Place : Type 0 where
  pub parent : ℕ
  pub lit : ℕ

-- literal number `lit` of the clause, if there is one
abbrev pub literal_in : Option Clause → ℕ → Option Literal
literal_in None lit = None
literal_in (Some c) lit = numbered c.literals lit

-- the literal at the place
abbrev pub literal_at : List Clause → Place → Option Literal
literal_at parents p = literal_in (numbered parents p.parent) p.lit

-- the pairs set the literals at the first places against those at the second, in order
abbrev pub ArePairs : List Clause → List Place → List Place → List Pair → Type 0
ArePairs parents [] [] pairs = pairs ≡ []
ArePairs parents (p ∷ ps) (q ∷ qs) (pair ∷ pairs) =
    (literal_at parents p ≡ Some pair.left) × (literal_at parents q ≡ Some pair.right) × ArePairs parents ps qs pairs
ArePairs parents (p ∷ ps) (q ∷ qs) [] = ⊥
ArePairs parents [] (q ∷ qs) pairs = ⊥
ArePairs parents (p ∷ ps) [] pairs = ⊥

-- in each pair the signs differ
abbrev pub HaveOppositeSigns : List Pair → Type 0
HaveOppositeSigns pairs = All (λ pair. pair.left.positive ≡ not pair.right.positive) pairs

-- in each pair the signs are the same
abbrev pub HaveSameSigns : List Pair → Type 0
HaveSameSigns pairs = All (λ pair. pair.left.positive ≡ pair.right.positive) pairs

-- these literals of one parent
abbrev pub places_in : ℕ → List ℕ → List Place
places_in parent lits = map (λ lit. record { parent = parent; lit = lit }) lits

-- a literal of each parent, from this one on
abbrev pub places_from : ℕ → List ℕ → List Place
places_from parent [] = []
places_from parent (lit ∷ lits) = record { parent = parent; lit = lit } ∷ places_from (parent + 1) lits
