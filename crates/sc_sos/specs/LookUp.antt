-- The clause that comes first among those that were looked at.
use Rattle.std.specs.Prelude.{◌≡◌, ℕ, List, Option, Some, None, All}
use Rattle.sc_core_rules.specs.Order.{Where, IsBefore, IsLeast}
use Rattle.sc_sos.specs.declared.sos.Weighed.{Weighed}
use Rattle.sc_sos.specs.declared.looking.Order.{Order}
use Rattle.sc_sos.specs.declared.looking.Order.TheVariants.{Age, Weight}
use Rattle.sc_sos.specs.Waiting.{age_of, weight_of}

-- the numbers that are compared in this order
abbrev pub numbers_by : Order → Weighed → List ℕ
numbers_by Age w = age_of w
numbers_by Weight w = weight_of w

-- of the best so far, if there is one, and the next, w is the one that comes first
abbrev pub IsSooner : (Weighed → List ℕ) → Option Weighed → Weighed → Weighed → Type 0
IsSooner order None next w = w ≡ next
IsSooner order (Some best) next w = Where (IsBefore (order next) (order best)) (w ≡ next) (w ≡ best)

-- of the clauses of which P holds this one comes first, or P holds of none
abbrev pub IsFirst : (Weighed → List ℕ) → (Weighed → Type 0) → List Weighed → Option Weighed → Type 0
IsFirst order P ws None = All (λ w. ¬ P w) ws
IsFirst order P ws (Some w) = IsLeast order P ws w
