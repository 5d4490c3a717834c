-- The terms that take clauses to their parts of a joint instance.
use Rattle.std.specs.Prelude.{◌≡◌, ℕ, ◌+◌, ◌-◌, zero, suc, List, [], ◌∷◌, ◌++◌, length}
use Rattle.sc_term.specs.declared.Term.{Term}
use Rattle.sc_term.specs.declared.Clause.{Clause}
use Rattle.sc_term.specs.Clause.{width, instance}
use Rattle.sc_term.specs.Term.{term_under}
use Rattle.sc_term.specs.Substitution.{Substitution}
use Rattle.sc_term.specs.JointInstance.{renumbering}
use Rattle.sc_unify.specs.declared.bound.Binding.{Binding}
use Rattle.sc_unify.specs.Bindings.{finished}

-- for each clause as many terms as its width, which take it to its part
abbrev pub AreTermsOf : List Clause → List (List Term) → List Clause → Type 0
AreTermsOf [] [] [] = Unit {0}
AreTermsOf (c ∷ cs) (terms ∷ more) (part ∷ parts) = (length terms ≡ width c) × (instance terms c ≡ part) × AreTermsOf cs more parts
AreTermsOf [] [] (part ∷ parts) = ⊥
AreTermsOf [] (terms ∷ more) parts = ⊥
AreTermsOf (c ∷ cs) [] parts = ⊥
AreTermsOf (c ∷ cs) (terms ∷ more) [] = ⊥

-- what the bindings make of a variable, with its variables numbered by the order
abbrev pub value_at : List Binding → List ℕ → Substitution
value_at bs order n = term_under (renumbering order) (finished bs n)

-- the terms of as many variables as the count, from the first
unfoldable pub values : Substitution → ℕ → ℕ → List Term
values s first zero = []
values s first (suc n) = values s first n ++ s (first + n) ∷ []

-- the terms of each clause's variables that are above those of the clauses before it
abbrev pub values_above : Substitution → ℕ → List Clause → List (List Term)
values_above s low [] = []
values_above s low (c ∷ cs) = values s low (width c - low) ∷ values_above s (low + (width c - low)) cs
