-- Substitutions and most general unifiers.
use Rattle.std.specs.Prelude.{◌≡◌, ℕ, List, All, map}
use Rattle.sc_term.specs.declared.Term.{Term}
use Rattle.sc_term.specs.declared.Literal.{Literal}
use Rattle.sc_term.specs.declared.Clause.{Clause}
use Rattle.sc_term.specs.Term.{term_under}
use Rattle.sc_term.specs.Refuted.{atom_of}
use Rattle.sc_term.specs.declared.Pair.{Pair}

-- a term for each variable
abbrev pub Substitution : Type 0
Substitution = ℕ → Term

abbrev pub literal_under : Substitution → Literal → Literal
literal_under s l = record l { args = map (term_under s) l.args }

abbrev pub clause_under : Substitution → Clause → Clause
clause_under s c = record { literals = map (literal_under s) c.literals }

-- the two atoms of each pair become equal
abbrev pub IsUnifier : List Pair → Substitution → Type 0
IsUnifier pairs s = All (λ pair. atom_of (literal_under s pair.left) ≡ atom_of (literal_under s pair.right)) pairs

-- t is what some further substitution makes of s
abbrev pub IsInstanceOf : Substitution → Substitution → Type 0
IsInstanceOf s t = (further : Substitution) × ((n : ℕ) → t n ≡ term_under further (s n))

pub record IsMostGeneralUnifier (pairs : List Pair) (s : Substitution) : Type 0 where
  pub unifies : IsUnifier pairs s
  pub general : (t : Substitution) → IsUnifier pairs t → IsInstanceOf s t

-- the pairs unify at once
abbrev pub Unify : List Pair → Type 0
Unify pairs = (s : Substitution) × IsUnifier pairs s
