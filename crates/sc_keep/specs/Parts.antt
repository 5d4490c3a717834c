-- The parts of clauses in a joint instance, and the pair of two units.
use Rattle.std.specs.Prelude.{ℕ, ◌+◌, List, [], ◌∷◌}
use Rattle.sc_term.specs.declared.Term.{Term, Var}
use Rattle.sc_term.specs.declared.Literal.{Literal}
use Rattle.sc_term.specs.declared.Clause.{Clause}
use Rattle.sc_term.specs.declared.Pair.{Pair}
use Rattle.sc_term.specs.Clause.{IsWithinLimits, width}
use Rattle.sc_term.specs.Substitution.{literal_under}
use Rattle.sc_term.specs.JointInstance.{IsJointInstance, whole}
use Rattle.sc_unify.specs.Joint.{AreTermsOf}

-- no joint instance is within the limits
abbrev pub HasNoParts : List Clause → List Pair → Type 0
HasNoParts own pairs = (parts : List Clause) → IsJointInstance own pairs parts → ¬ IsWithinLimits (whole parts)

-- the terms take the clauses to their parts of the joint instance, which is within the limits
pub record HasParts (own : List Clause) (pairs : List Pair) (terms : List (List Term)) : Type 0 where
  pub parts : List Clause
  pub joint : IsJointInstance own pairs parts
  pub within : IsWithinLimits (whole parts)
  pub are_terms : AreTermsOf own terms parts

abbrev pub pairs_of : ℕ → List Literal → List Literal → List Pair
pairs_of by (l ∷ []) (r ∷ []) = record { left = literal_under (λ k. Var (k + 0)) l; right = literal_under (λ k. Var (k + by)) r } ∷ []
pairs_of by [] rs = []
pairs_of by (l ∷ []) [] = []
pairs_of by (l ∷ []) (r ∷ s ∷ rs) = []
pairs_of by (l ∷ m ∷ ls) rs = []

-- the literals of two units, renamed apart
abbrev pub unit_pairs : Clause → Clause → List Pair
unit_pairs n m = pairs_of (0 + width n) n.literals m.literals
