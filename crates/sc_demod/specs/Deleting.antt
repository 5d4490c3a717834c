-- Removing literals by units.
use Rattle.std.specs.Prelude.{◌≡◌, ◌<◌, ℕ, List, [], ◌∷◌, length, not, Some, slice_index_or}
use Rattle.std.specs.List.{AllWithin}
use Rattle.sc_term.specs.declared.Term.{Term}
use Rattle.sc_term.specs.declared.Literal.{Literal}
use Rattle.sc_term.specs.declared.Clause.{Clause}
use Rattle.sc_term.specs.declared.Line.{Line}
use Rattle.sc_term.specs.declared.Numbered.{Numbered}
use Rattle.sc_term.specs.declared.Step.TheVariants.{Resolve}
use Rattle.sc_term.specs.Numbering.{numbered, without}
use Rattle.sc_steps.specs.Derivation.{last_clause}
use Rattle.sc_core_rules.specs.Derivation.{Adds, AddsPart}
use Rattle.sc_core_rules.specs.Simplification.{Removes}
use Rattle.sc_unify.specs.Matching.{IsMatch}

-- u is a unit that removes l by these terms in place of its variables
pub record IsRemoval (l : Literal) (u : Numbered) (terms : List Term) : Type 0 where
  pub literal : Literal
  pub only : u.clause.literals ≡ literal ∷ []
  pub signs : l.positive ≡ not literal.positive
  pub equal : IsMatch literal l terms

-- the first unit of the list that removes l stands at this place
pub record IsFirstRemoval (units : List Numbered) (l : Literal) (place : ℕ) (terms : List Term) : Type 0 where
  pub within : place < length units
  pub unit : Numbered
  pub there : unit ≡ slice_index_or units place unit
  pub removal : IsRemoval l unit terms
  pub first : AllWithin (λ u. ¬ Removes l u) units 0 place

-- none of them removes l
abbrev pub RemovesNone : List Numbered → Literal → Type 0
RemovesNone units l = AllWithin (λ u. ¬ Removes l u) units 0 (length units)

-- the unit clause of the opposite literal
abbrev pub opposite : Literal → Clause
opposite l = record { literals = record l { positive = not l.positive } ∷ [] }

-- literal a of the clause, the last of the lines, is removed by the unit, and its lines added
pub record IsCut (clause : Clause) (before : List Line) (a : ℕ) (u : Numbered) (cut : Clause) (after : List Line) : Type 0 where
  pub literal : Literal
  pub literal_there : numbered clause.literals a ≡ Some literal
  pub mid : List Line
  pub k : ℕ
  pub shows : AddsPart before u (opposite literal) mid k
  pub resolves : Adds mid (Resolve (length before) a k 1) after
  pub rest : cut.literals ≡ without clause.literals a
  pub ends : last_clause after ≡ Some cut
