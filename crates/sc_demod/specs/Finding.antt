-- The first redex of a term, of terms, of a clause.
use Rattle.std.specs.Prelude.{◌≡◌, ◌<◌, ℕ, List, [], ◌∷◌, Contains, Some}
use Rattle.sc_term.specs.declared.SymId.{SymId}
use Rattle.sc_term.specs.declared.Term.{Term}
use Rattle.sc_term.specs.declared.Term.TheVariants.{App}
use Rattle.sc_term.specs.declared.Literal.{Literal}
use Rattle.sc_term.specs.declared.Numbered.{Numbered}
use Rattle.sc_term.specs.Numbering.{numbered}
use Rattle.sc_term.specs.Path.{IsSubtermAt}
use Rattle.sc_core_rules.specs.Paramodulation.{IsCompound}
use Rattle.sc_core_rules.specs.Rewriting.{Fits, IsBeforeInPostOrder}
use Rattle.sc_demod.specs.Fitting.{IsFirstFit}

-- s is the term's subterm at the path, the term itself for the empty path
abbrev pub IsWithin : Term → List ℕ → Term → Type 0
IsWithin t [] s = t ≡ s
IsWithin t (i ∷ path) s = (f : SymId) × (args : List Term) × (t ≡ App f args) × IsSubtermAt args (i ∷ path) s

-- s is no variable and an instance of a demodulator's left side
abbrev pub IsReducible : List Numbered → Term → Type 0
IsReducible demods s = IsCompound s × ((d : Numbered) × Contains demods d × Fits d s)

-- a demodulator fits s
abbrev pub FitsSome : List Numbered → Term → Type 0
FitsSome demods s = (d : Numbered) × Contains demods d × Fits d s

-- the subterms, of which At says what stands where, have no redex
abbrev pub FindsNone : List Numbered → (List ℕ → Term → Type 0) → Type 0
FindsNone demods At = (path : List ℕ) (s : Term) → At path s → ¬ IsReducible demods s

-- one of them is a redex
pub record FindsSome (demods : List Numbered) (At : List ℕ → Term → Type 0) : Type 0 where
  pub path : List ℕ
  pub redex : Term
  pub there : At path redex
  pub reducible : IsReducible demods redex

-- the first redex among them is at this path, and the first demodulator that fits at this place of the list
pub record Finds (demods : List Numbered) (At : List ℕ → Term → Type 0) (path : List ℕ) (place : ℕ) (terms : List Term) : Type 0 where
  pub redex : Term
  pub there : At path redex
  pub compound : IsCompound redex
  pub fits : IsFirstFit demods redex place terms
  pub first : (q : List ℕ) (s : Term) → IsBeforeInPostOrder q path → At q s → ¬ IsReducible demods s

-- literal b is the first that has a redex
pub record FindsIn (demods : List Numbered) (literals : List Literal) (b : ℕ) (path : List ℕ) (place : ℕ) (terms : List Term) : Type 0 where
  pub literal : Literal
  pub literal_there : numbered literals b ≡ Some literal
  pub found : Finds demods (IsSubtermAt literal.args) path place terms
  pub earlier : (a : ℕ) (l : Literal) → a < b → numbered literals a ≡ Some l → FindsNone demods (IsSubtermAt l.args)

-- none has one
abbrev pub FindsNoneIn : List Numbered → List Literal → Type 0
FindsNoneIn demods literals = (a : ℕ) (l : Literal) → numbered literals a ≡ Some l → FindsNone demods (IsSubtermAt l.args)
