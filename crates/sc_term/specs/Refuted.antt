-- When clauses are refuted: finitely many of their instances, and of equality axioms, can't all be made true.
use Rattle.std.specs.Prelude.{◌≡◌, ℕ, List, [], ◌∷◌, ◌++◌, Bool, true, false, not, ◌&&◌, ◌⊎◌, nat_eq, slice_get, Some, if◌then◌else◌}
use Rattle.std.specs.List.{list_any, list_all, AllByRecursion}
use Rattle.sc_term.specs.declared.SymId.{SymId}
use Rattle.sc_term.specs.declared.Term.{Term, fold-Term, out-Term}
use Rattle.sc_term.specs.declared.Term.TheVariants.{App}
use Rattle.sc_term.specs.declared.Term.TheOpen.{Term-F}
use Rattle.sc_term.specs.declared.Term.TheOpen as at
use Rattle.sc_term.specs.declared.Literal.{Literal}
use Rattle.sc_term.specs.declared.Clause.{Clause}
use Rattle.sc_term.specs.Clause.{instance}

-- ---- when two terms are the same

abbrev pub all_same : List (Term → Bool) → List Term → Bool
all_same [] [] = true
all_same [] (t ∷ ts) = false
all_same (test ∷ tests) [] = false
all_same (test ∷ tests) (t ∷ ts) = test t && all_same tests ts

abbrev pub same_layer : Term-F (Term → Bool) → Term-F Term → Bool
same_layer (at.Var m) (at.Var n) = nat_eq m n
same_layer (at.Var m) (at.App g ts) = false
same_layer (at.App f tests) (at.Var n) = false
same_layer (at.App f tests) (at.App g ts) = nat_eq f.0 g.0 && all_same tests ts

abbrev pub same_term : Term → Term → Bool
same_term = fold-Term (Term → Bool) (λ layer t. same_layer layer (out-Term t))

abbrev pub same_terms : List Term → List Term → Bool
same_terms [] [] = true
same_terms [] (t ∷ ts) = false
same_terms (s ∷ ss) [] = false
same_terms (s ∷ ss) (t ∷ ts) = same_term s t && same_terms ss ts

-- ---- valuations

pub record Atom : Type 0 where
  pub pred : SymId
  pub args : List Term

abbrev pub same_atom : Atom → Atom → Bool
same_atom a b = nat_eq a.pred.0 b.pred.0 && same_terms a.args b.args

abbrev pub atom_of : Literal → Atom
atom_of l = record { pred = l.pred; args = l.args }

-- A valuation is the list of the atoms that are true in it.
abbrev pub is_true_in : List Atom → Atom → Bool
is_true_in valuation a = list_any (same_atom a) valuation

abbrev pub is_false_literal : List Atom → Literal → Bool
is_false_literal valuation l = if l.positive then not (is_true_in valuation (atom_of l)) else is_true_in valuation (atom_of l)

abbrev pub is_false_clause : List Atom → Clause → Bool
is_false_clause valuation c = list_all (is_false_literal valuation) c.literals

-- ---- equality axioms

abbrev pub equals : SymId
equals = record { 0 = 0 }

abbrev pub equation : Bool → Term → Term → Literal
equation positive s t = record { positive = positive; pred = equals; args = s ∷ t ∷ [] }

-- t = t
abbrev pub IsReflexivity : Clause → Type 0
IsReflexivity c = (t : Term) × (c.literals ≡ equation true t t ∷ [])

-- s != t | f(.., s, ..) = f(.., t, ..)
abbrev pub IsCongruenceOfFunction : Clause → Type 0
IsCongruenceOfFunction c =
    (f : SymId) × (s : Term) × (t : Term) × (before : List Term) × (after : List Term)
    × (c.literals ≡ equation false s t ∷ equation true (App f (before ++ s ∷ after)) (App f (before ++ t ∷ after)) ∷ [])

-- s != t | -p(.., s, ..) | p(.., t, ..)
abbrev pub IsCongruenceOfPredicate : Clause → Type 0
IsCongruenceOfPredicate c =
    (p : SymId) × (s : Term) × (t : Term) × (before : List Term) × (after : List Term)
    × (c.literals ≡ equation false s t
    ∷ record { positive = false; pred = p; args = before ++ s ∷ after }
    ∷ record { positive = true; pred = p; args = before ++ t ∷ after } ∷ [])

abbrev pub IsEqualityAxiom : Clause → Type 0
IsEqualityAxiom c = IsReflexivity c ⊎ IsCongruenceOfFunction c ⊎ IsCongruenceOfPredicate c

-- ---- refuted

abbrev pub IsInstanceOfOne : List Clause → Clause → Type 0
IsInstanceOfOne inputs c = (i : ℕ) × (input : Clause) × (terms : List Term) × (slice_get inputs i ≡ Some input) × (c ≡ instance terms input)

abbrev pub IsMember : List Clause → Clause → Type 0
IsMember inputs c = IsInstanceOfOne inputs c ⊎ IsEqualityAxiom c

pub record Refutation (inputs : List Clause) : Type 0 where
  pub members : List Clause
  pub allowed : AllByRecursion (IsMember inputs) members
  pub false_somewhere : (valuation : List Atom) → list_any (is_false_clause valuation) members ≡ true

abbrev pub IsRefuted : List Clause → Type 0
IsRefuted inputs = Refutation inputs
