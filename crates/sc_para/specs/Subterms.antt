-- The sites of a side of an equation with the subterms of arguments, as they are walked.
use Rattle.std.specs.Prelude.{◌≡◌, ◌⊎◌, ℕ, ◌+◌, List, [], ◌∷◌, ◌++◌, Some, slice_get}
use Rattle.sc_term.specs.declared.SymId.{SymId}
use Rattle.sc_term.specs.declared.Term.{Term}
use Rattle.sc_term.specs.declared.Term.TheVariants.{App}
use Rattle.sc_term.specs.declared.Literal.{Literal}
use Rattle.sc_term.specs.Path.{IsSubtermAt}
use Rattle.sc_term.specs.Substitution.{Unify}
use Rattle.sc_core_rules.specs.declared.site.ParaSite.{ParaSite}
use Rattle.sc_core_rules.specs.Paramodulation.{IsCompound, atom_with}
use Rattle.sc_resolve.specs.Literals.{pair_of}
use Rattle.sc_para.specs.declared.spot.Spot.{Spot}
use Rattle.sc_para.specs.Spots.{site_at}

-- the atom has one argument, which begins with this symbol
abbrev pub IsHeaded : SymId → Literal → Type 0
IsHeaded f source = (args : List Term) × (source ≡ atom_with (App f args))

-- the term is no variable, and can be made equal to the argument of the atom
pub record IsTarget (source : Literal) (t : Term) : Type 0 where
  pub compound : IsCompound t
  pub unify : Unify (pair_of source (atom_with t))

-- a site of a subterm of these arguments, to which the path leads
abbrev pub IsUnder : Literal → Spot → List ℕ → List Term → ParaSite → Type 0
IsUnder source spot here args x =
    (path : List ℕ) × (t : Term) × (x ≡ site_at spot (here ++ path)) × IsSubtermAt args path t × IsTarget source t

-- the site of the term itself, at the path
abbrev pub IsHere : Literal → Spot → List ℕ → Term → ParaSite → Type 0
IsHere source spot here t x = (x ≡ site_at spot here) × IsTarget source t

-- a site of the term, at the path, or of a subterm of it
abbrev pub IsWithin : Literal → Spot → List ℕ → Term → ParaSite → Type 0
IsWithin source spot here t x =
    IsHere source spot here t x ⊎ ((f : SymId) × (args : List Term) × (t ≡ App f args) × IsUnder source spot here args x)

-- a site of the argument at k, or of a subterm of it
abbrev pub IsWithinArgument : Literal → Spot → List ℕ → List Term → ℕ → ParaSite → Type 0
IsWithinArgument source spot here args k x = (t : Term) × (slice_get args k ≡ Some t) × IsWithin source spot (here ++ (k + 1) ∷ []) t x
