-- What contracts see of a set of support: clause numbers with their weights, and which of them comes first.
use Rattle.std.specs.Prelude.{◌≡◌, ℕ, List, [], ◌∷◌, ◌++◌, Contains, filter, not, nat_eq}
use Rattle.sc_mark.specs.Marked.{Marked, IsMarkedFalse}
use Rattle.sc_core_rules.specs.Order.{IsLeast}
use Rattle.sc_sos.specs.declared.sos.Weighed.{Weighed}

-- the clauses that wait, and for how many more memory is there
pub record Waiting : Type 0 where
  pub clauses : List Weighed
  pub spare : ℕ

-- by age
abbrev pub age_of : Weighed → List ℕ
age_of w = w.number ∷ []

-- the lighter first, and of equal weight the lesser number
abbrev pub weight_of : Weighed → List ℕ
weight_of w = w.weight ∷ w.number ∷ []

abbrev pub IsAny : Weighed → Type 0
IsAny w = Unit {0}

-- a clause of the number waits
abbrev pub Waits : List Weighed → ℕ → Type 0
Waits ws n = (w : Weighed) × Contains ws w × (w.number ≡ n)

-- n is the number of the one of which P holds that comes first in this order
abbrev pub ComesFirst : (Weighed → List ℕ) → (Weighed → Type 0) → List Weighed → ℕ → Type 0
ComesFirst order P ws n = (w : Weighed) × (w.number ≡ n) × IsLeast order P ws w

-- the clause is marked False
abbrev pub IsFalseIn : Marked → Weighed → Type 0
IsFalseIn marked w = IsMarkedFalse marked w.number

-- one more waits
abbrev pub with_clause : List Weighed → ℕ → ℕ → List Weighed
with_clause ws n weight = ws ++ record { number = n; weight = weight } ∷ []

-- clause n doesn't wait any more
abbrev pub without_clause : List Weighed → ℕ → List Weighed
without_clause ws n = filter (λ (w : Weighed). not (nat_eq w.number n)) ws
