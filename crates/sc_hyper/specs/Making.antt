-- Conclusions of sites whose first parent is resolved with several others, one after the other.
use Rattle.std.specs.Prelude.{◌≡◌, ◌≢◌, ◌<◌, ◌≤◌, ℕ, ◌+◌, ◌*◌, ◌-◌, List, [], ◌∷◌, ◌++◌, AllPairs, length, map, Some}
use Rattle.std.specs.List.{AllZip}
use Rattle.sc_term.specs.declared.Term.{Term}
use Rattle.sc_term.specs.declared.Clause.{Clause}
use Rattle.sc_term.specs.declared.Line.{Line}
use Rattle.sc_term.specs.declared.Numbered.{Numbered}
use Rattle.sc_term.specs.declared.Pair.{Pair}
use Rattle.sc_term.specs.Numbering.{without}
use Rattle.sc_term.specs.Clause.{IsWithinLimits}
use Rattle.sc_term.specs.Proof.{clause_of}
use Rattle.sc_term.specs.Substitution.{Unify}
use Rattle.sc_term.specs.JointInstance.{apart, whole}
use Rattle.sc_unify.specs.Joint.{AreTermsOf}
use Rattle.sc_core_rules.specs.Derivation.{AddsParts, EndsCanonical}
use Rattle.sc_core_rules.specs.Inference.{Inference, Resolving, Ends}
use Rattle.sc_core_rules.specs.Pairing.{ArePairs, HaveOppositeSigns, places_in, places_from}
use Rattle.sc_resolve.specs.Made.{IsOpposed}
use Rattle.sc_resolve.specs.Parts.{AreJoint}

-- the clauses without their numbers
abbrev pub clauses_of : List Numbered → List Clause
clauses_of ps = map (λ (p : Numbered). p.clause) ps

-- a number that stands twice is of one clause
abbrev pub AreOneByNumber : List Numbered → Type 0
AreOneByNumber ps = AllPairs (λ p q. p.number ≡ q.number → p ≡ q) ps

-- the pairs set these literals of the first clause against one of each of the others, in order
abbrev pub ArePaired : List Clause → List ℕ → List ℕ → List Pair → Type 0
ArePaired apart lits others pairs = ArePairs apart (places_in 1 lits) (places_from 2 others) pairs

-- these literals of the first parent, of which there are some, unify at once, each with that literal of the next parent,
-- which has the opposite sign, and are resolved in order
pub record IsResolution (parents : List Numbered) (lits others : List ℕ) (i : Inference) : Type 0 where
  pub parents_are : i.parents ≡ parents
  pub many : length parents ≡ length lits + 1
  pub some : lits ≢ []
  pub rising : AllPairs (λ a b. a < b) lits
  pub pairs : ArePaired (apart (clauses_of parents)) lits others i.pairs
  pub signs : HaveOppositeSigns i.pairs
  pub unify : Unify i.pairs
  pub ending : i.ending ≡ Resolving lits others

-- the terms take the parents to their parts, which are those of the joint instance
pub record AreTermsOfAll (parents : List Clause) (pairs : List Pair) (told : List (List Term)) : Type 0 where
  pub parts : List Clause
  pub terms : AreTermsOf parents told parts
  pub joint : AreJoint parents pairs parts

-- the terms take the parents to these parts, which together are within the limits
pub record AreTold (parents : List Numbered) (told : List (List Term)) (parts : List Clause) : Type 0 where
  pub terms : AreTermsOf (clauses_of parents) told parts
  pub within : IsWithinLimits (whole parts)

-- the lines have the parts of the parents, each in its line
pub record IsOpened (parents : List Numbered) (parts : List Clause) (lines : List Line) (part_lines : List ℕ) : Type 0 where
  pub opens : AddsParts [] parents parts lines part_lines
  pub there : AllZip (λ k part. clause_of lines k ≡ Some part) part_lines parts
  pub few : length lines ≤ 2 * length parents

-- the two clauses without these literals
abbrev pub resolvent : Clause → ℕ → Clause → ℕ → Clause
resolvent left a right b = record { literals = without left.literals a ++ without right.literals b }

-- these literals of the clause can be resolved in order, each with that of the next part. A literal that is gone moves
-- those behind it forward by one
abbrev pub CanResolveAll : Clause → List ℕ → List Clause → List ℕ → Type 0
CanResolveAll c [] [] [] = Unit {0}
CanResolveAll c (a ∷ as') (part ∷ parts) (b ∷ bs) = IsOpposed c a part b × CanResolveAll (resolvent c a part b) (map (λ n. n - 1) as') parts bs
CanResolveAll c [] [] (b ∷ bs) = ⊥
CanResolveAll c [] (part ∷ parts) bs = ⊥
CanResolveAll c (a ∷ as') [] bs = ⊥
CanResolveAll c (a ∷ as') (part ∷ parts) [] = ⊥

-- the same, where the clause is the first of the parts
abbrev pub CanResolveParts : List Clause → List ℕ → List ℕ → Type 0
CanResolveParts [] lits others = ⊥
CanResolveParts (first ∷ parts) lits others = CanResolveAll first lits parts others

-- the lines go from those with the parts by resolving the first part on these literals in order
pub record AreResolvedAll (opening : List Line) (part_lines lits others : List ℕ) (lines : List Line) : Type 0 where
  pub steps : List Line
  pub ends : Ends (Resolving lits others) part_lines opening steps
  pub canonical_last : EndsCanonical steps lines
