-- The parts of parents in their joint instance.
use Rattle.std.specs.Prelude.{◌≡◌, List, [], ◌∷◌, length}
use Rattle.sc_term.specs.declared.Term.{Term}
use Rattle.sc_term.specs.declared.Clause.{Clause}
use Rattle.sc_term.specs.declared.Pair.{Pair}
use Rattle.sc_term.specs.Clause.{width, instance, IsWithinLimits}
use Rattle.sc_term.specs.JointInstance.{IsJointInstance, whole}

-- the joint instance is outside the limits
abbrev pub IsOutside : List Clause → List Pair → Type 0
IsOutside parents pairs = (parts : List Clause) → IsJointInstance parents pairs parts → ¬ IsWithinLimits (whole parts)

-- the parts are those of the joint instance, which is within the limits
pub record AreJoint (parents : List Clause) (pairs : List Pair) (parts : List Clause) : Type 0 where
  pub joint : IsJointInstance parents pairs parts
  pub within : IsWithinLimits (whole parts)

-- the terms take the one parent to its part
pub record AreTermsOfOne (c : Clause) (pairs : List Pair) (terms : List Term) : Type 0 where
  pub many : length terms ≡ width c
  pub joint : AreJoint (c ∷ []) pairs (instance terms c ∷ [])

-- the terms take the two parents to their parts
pub record AreTermsOfTwo (c d : Clause) (pairs : List Pair) (left right : List Term) : Type 0 where
  pub left_many : length left ≡ width c
  pub right_many : length right ≡ width d
  pub joint : AreJoint (c ∷ d ∷ []) pairs (instance left c ∷ instance right d ∷ [])
