-- Matching one atom onto another.
use Rattle.std.specs.Prelude.{◌≡◌, ◌≢◌, ◌<◌, ◌↔◌, ℕ, zero, suc, List, [], ◌∷◌, ◌++◌, map, length, slice_get, nat_eq, Bool, true, false, Some}
use Rattle.std.specs.List.{AllByRecursion, list_any}
use Rattle.std.specs.Option.{unwrap_or}
use Rattle.sc_term.specs.declared.Term.{Term, Var}
use Rattle.sc_term.specs.declared.Literal.{Literal}
use Rattle.sc_term.specs.Term.{joined, term_under, term_variables, term_width, term_instance}
use Rattle.sc_term.specs.Clause.{literal_width, literal_instance}
use Rattle.sc_term.specs.Refuted.{atom_of}
use Rattle.sc_term.specs.Substitution.{Substitution, literal_under}
use Rattle.sc_unify.specs.declared.bound.Binding.{Binding}
use Rattle.sc_unify.specs.Bindings.{lookup}

-- ---- what is told of a match

-- the terms in place of the pattern's variables make the two atoms equal
pub record IsMatch (pattern target : Literal) (terms : List Term) : Type 0 where
  pub long : length terms ≡ literal_width pattern
  pub equal : atom_of (literal_instance terms pattern) ≡ atom_of target
  pub absent : (n : ℕ) → n < literal_width pattern → list_any (nat_eq n) (joined (map term_variables pattern.args)) ≡ false → slice_get terms n ≡ Some (Var 0)

abbrev pub HasNoMatch : Literal → Literal → Type 0
HasNoMatch pattern target = (s : Substitution) → atom_of (literal_under s pattern) ≢ atom_of target

-- the terms in place of the pattern's variables make it the target
pub record IsTermMatch (pattern target : Term) (terms : List Term) : Type 0 where
  pub long : length terms ≡ term_width pattern
  pub equal : target ≡ term_instance terms pattern
  pub absent : (n : ℕ) → n < term_width pattern → list_any (nat_eq n) (term_variables pattern) ≡ false → slice_get terms n ≡ Some (Var 0)

-- no terms in place of the pattern's variables make it the target
abbrev pub HasNoTermMatch : Term → Term → Type 0
HasNoTermMatch pattern target = (s : Substitution) → term_under s pattern ≢ target

-- ---- how it is found

-- the substitution gives each variable its term
abbrev pub Gives : Substitution → List Binding → Type 0
Gives s bs = AllByRecursion (λ (b : Binding). s b.variable ≡ b.term) bs

-- each variable has one term
abbrev pub IsFunctional : List Binding → Type 0
IsFunctional bs = AllByRecursion (λ (b : Binding). lookup bs b.variable ≡ Some b.term) bs

-- the new bindings are given exactly where the old ones are and the condition on the variables holds
pub record IsMatched (old new : List Binding) (holds : Substitution → Type 0) (vars : List ℕ) : Type 0 where
  pub same : (s : Substitution) → Gives s new ↔ (Gives s old × holds s)
  pub functional : IsFunctional old → IsFunctional new
  pub beside : (n : ℕ) → AllByRecursion (λ k. k ≢ n) vars → lookup new n ≡ lookup old n

abbrev pub Matches : Bool → List Binding → List Binding → (Substitution → Type 0) → List ℕ → Type 0
Matches true old new holds vars = IsMatched old new holds vars
Matches false old new holds vars = (s : Substitution) → Gives s old → ¬ holds s

-- the terms of the variables below the number, variable 0 for one that has none
unfoldable pub filled : List Binding → ℕ → List Term
filled bs zero = []
filled bs (suc n) = filled bs n ++ unwrap_or (lookup bs n) (Var 0) ∷ []
