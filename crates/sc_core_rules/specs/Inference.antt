-- An inference from parents, and its conclusion with the derivation.
use Rattle.std.specs.Prelude.{◌≡◌, ℕ, ◌-◌, List, [], ◌∷◌, Some, map, length}
use Rattle.sc_term.specs.declared.Clause.{Clause}
use Rattle.sc_term.specs.declared.Side.{Side}
use Rattle.sc_term.specs.declared.Line.{Line}
use Rattle.sc_term.specs.declared.Step.TheVariants.{Resolve, Merge, Para}
use Rattle.sc_term.specs.Clause.{IsWithinLimits}
use Rattle.sc_term.specs.declared.Pair.{Pair}
use Rattle.sc_term.specs.declared.Numbered.{Numbered}
use Rattle.sc_steps.specs.declared.derivations.derivation.Derived.{Derived}
use Rattle.sc_steps.specs.declared.derivations.made.Made.{Made}
use Rattle.sc_term.specs.JointInstance.{IsJointInstance, whole}
use Rattle.sc_steps.specs.Derivation.{last_clause}
use Rattle.sc_core_rules.specs.Derivation.{Adds, AddsParts, EndsCanonical}

-- what a maker answers, as a value: the clause with its lines
abbrev pub derived_of : Made → Derived
derived_of made = record { clause = made.clause; lines = made.lines }

-- what is done with the parts of the parents in their joint instance
pub data Ending : Type 0 where
  -- these literals of the first parent are resolved in order, each with that literal of the next parent
  Resolving : List ℕ → List ℕ → Ending
  -- this literal of the one parent is merged
  Merging : ℕ → Ending
  -- by this equation of the first parent, from that side, in that literal of the second parent at the path
  Replacing : ℕ → Side → ℕ → List ℕ → Ending

-- the parents in order, the literals that have to become equal, and what is done then
pub record Inference : Type 0 where
  pub parents : List Numbered
  -- what has to become equal, of the parents renamed apart
  pub pairs : List Pair
  pub ending : Ending

-- the clauses of the parents
abbrev pub parent_clauses : Inference → List Clause
parent_clauses i = map (λ (p : Numbered). p.clause) i.parents

-- the clause of line j is resolved on its literals, in order, each with the literal of the line beside it. A literal
-- that is gone moves those behind it forward by one
abbrev pub ResolvesAll : List Line → ℕ → List ℕ → List ℕ → List ℕ → List Line → Type 0
ResolvesAll before j [] [] [] after = after ≡ before
ResolvesAll before j (a ∷ as') (k ∷ ks) (b ∷ bs) after =
    (mid : List Line) × Adds before (Resolve j a k b) mid × ResolvesAll mid (length mid) (map (λ n. n - 1) as') ks bs after
ResolvesAll before j [] [] (b ∷ bs) after = ⊥
ResolvesAll before j [] (k ∷ ks) bs after = ⊥
ResolvesAll before j (a ∷ as') [] bs after = ⊥
ResolvesAll before j (a ∷ as') (k ∷ ks) [] after = ⊥

-- the steps that the ending adds, where the parts stand in these lines
abbrev pub Ends : Ending → List ℕ → List Line → List Line → Type 0
Ends (Resolving as' bs) (j ∷ ks) before after = ResolvesAll before j as' ks bs after
Ends (Merging a) (j ∷ ks) before after = Adds before (Merge j a) after
Ends (Replacing a side b path) (j ∷ k ∷ ks) before after = Adds before (Para j a side k b path) after
Ends (Resolving as' bs) [] before after = ⊥
Ends (Merging a) [] before after = ⊥
Ends (Replacing a side b path) [] before after = ⊥
Ends (Replacing a side b path) (j ∷ []) before after = ⊥

-- the inference has this conclusion with this derivation: the parts of the parents, the steps of the ending, and the
-- canonical form. Joint instance and conclusion are within the limits
pub record Concludes (i : Inference) (made : Derived) : Type 0 where
  pub parts : List Clause
  pub joint : IsJointInstance (parent_clauses i) i.pairs parts
  pub joint_within : IsWithinLimits (whole parts)
  pub opening : List Line
  pub part_lines : List ℕ
  pub opens : AddsParts [] i.parents parts opening part_lines
  pub steps : List Line
  pub ends : Ends i.ending part_lines opening steps
  pub canonical_last : EndsCanonical steps made.lines
  pub conclusion : last_clause made.lines ≡ Some made.clause
  pub conclusion_within : IsWithinLimits made.clause

-- it has one conclusion at most
abbrev pub ConclusionIsOne : Type 0
ConclusionIsOne = (i : Inference) (made other : Derived) → Concludes i made → Concludes i other → made ≡ other
