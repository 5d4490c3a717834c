-- Two units from which the empty clause follows.
use Rattle.std.specs.Prelude.{◌≡◌, [], ◌∷◌, length}
use Rattle.sc_term.specs.declared.Numbered.{Numbered}
use Rattle.sc_steps.specs.declared.derivations.derivation.Derived.{Derived}
use Rattle.sc_term.specs.JointInstance.{apart}
use Rattle.sc_core_rules.specs.Inference.{Inference, Resolving, Concludes, parent_clauses}
use Rattle.sc_core_rules.specs.Pairing.{ArePairs, HaveOppositeSigns, places_in}

-- the clause has one literal
abbrev pub IsUnit : Numbered → Type 0
IsUnit p = length p.clause.literals ≡ 1

-- n and m are units of opposite signs, and resolve to the empty clause with this derivation
pub record Conflicts (n m : Numbered) (made : Derived) : Type 0 where
  pub inference : Inference
  pub unit_n : IsUnit n
  pub unit_m : IsUnit m
  pub parents : inference.parents ≡ n ∷ m ∷ []
  pub pairs : ArePairs (apart (parent_clauses inference)) (places_in 1 (1 ∷ [])) (places_in 2 (1 ∷ [])) inference.pairs
  pub signs : HaveOppositeSigns inference.pairs
  pub ending : inference.ending ≡ Resolving (1 ∷ []) (1 ∷ [])
  pub concludes : Concludes inference made
