-- How a conclusion of paramodulation is made of the parts of its parents.
use Rattle.std.specs.Prelude.{◌≡◌, ℕ, List, [], ◌∷◌, Some, true}
use Rattle.sc_term.specs.declared.Side.{Side}
use Rattle.sc_term.specs.declared.Term.{Term}
use Rattle.sc_term.specs.declared.Literal.{Literal}
use Rattle.sc_term.specs.declared.Clause.{Clause}
use Rattle.sc_term.specs.declared.Line.{Line}
use Rattle.sc_term.specs.declared.Numbered.{Numbered}
use Rattle.sc_term.specs.declared.Step.TheVariants.{Para}
use Rattle.sc_term.specs.Numbering.{numbered}
use Rattle.sc_term.specs.Path.{IsSubtermAt, IsReplaced}
use Rattle.sc_term.specs.Proof.{chosen, other, IsParamodulant}
use Rattle.sc_term.specs.Refuted.{equation}
use Rattle.sc_term.specs.Substitution.{Unify}
use Rattle.sc_steps.specs.Derivation.{last_clause}
use Rattle.sc_core_rules.specs.declared.site.ParaSite.{ParaSite}
use Rattle.sc_core_rules.specs.Derivation.{Adds, AddsPart}
use Rattle.sc_core_rules.specs.Inference.{Inference, Replacing}
use Rattle.sc_core_rules.specs.Paramodulation.{atom_with}
use Rattle.sc_resolve.specs.Binary.{renamed}
use Rattle.sc_resolve.specs.Literals.{pair_of}

-- literal n is a positive equation of these sides, chosen and other
abbrev pub AreSidesOf : List Literal → ℕ → Side → Term → Term → Type 0
AreSidesOf literals n side s t =
    (left : Term) × (right : Term) × (numbered literals n ≡ Some (equation true left right)) × (s ≡ chosen side left right) × (t ≡ other side left right)

-- the subterm at the path of literal n
abbrev pub IsSubtermOf : List Literal → ℕ → List ℕ → Term → Type 0
IsSubtermOf literals n path t = (m : Literal) × (numbered literals n ≡ Some m) × IsSubtermAt m.args path t

-- the site's side of the equation in `left` is the subterm at its place in `right`
pub record IsFitting (left : Clause) (right : Clause) (site : ParaSite) : Type 0 where
  pub s : Term
  pub t : Term
  pub sides : AreSidesOf left.literals site.from_lit site.side s t
  pub there : IsSubtermOf right.literals site.into_lit site.path s

-- the site's literal of `right` becomes `changed`
pub record IsChanged (left : Clause) (right : Clause) (site : ParaSite) (changed : Literal) : Type 0 where
  pub s : Term
  pub t : Term
  pub sides : AreSidesOf left.literals site.from_lit site.side s t
  pub target : Literal
  pub target_there : numbered right.literals site.into_lit ≡ Some target
  pub args : List Term
  pub replaced : IsReplaced target.args site.path s t args
  pub is : changed ≡ record target { args = args }

-- c is what paramodulation of the two clauses at the site gives
abbrev pub IsParamodulantOf : Clause → Clause → ParaSite → Clause → Type 0
IsParamodulantOf left right site c = IsParamodulant left site.from_lit site.side right site.into_lit site.path c

-- the lines go from the parts of the two clauses by paramodulation at the site to the clause
pub record AreReplacing (from into : Numbered) (left right : Clause) (site : ParaSite) (c : Clause) (lines : List Line) : Type 0 where
  pub mid : List Line
  pub left_line : ℕ
  pub left_opens : AddsPart [] from left mid left_line
  pub opening : List Line
  pub right_line : ℕ
  pub right_opens : AddsPart mid into right opening right_line
  pub ends : Adds opening (Para left_line site.from_lit site.side right_line site.into_lit site.path) lines
  pub last : last_clause lines ≡ Some c

-- l has the side s of the equation of `from`, and m the subterm t in `into` renamed apart; they are those of the site, and unify
pub record AreReplaced (from into : Numbered) (site : ParaSite) (l m : Literal) : Type 0 where
  pub s : Term
  pub rest : Term
  pub left_is : l ≡ atom_with s
  pub sides : AreSidesOf from.clause.literals site.from_lit site.side s rest
  pub t : Term
  pub right_is : m ≡ atom_with t
  pub subterm_there : IsSubtermOf (renamed from into) site.into_lit site.path t
  pub can : Unify (pair_of l m)

abbrev pub replacement : Numbered → Numbered → ParaSite → Literal → Literal → Inference
replacement from into site l m =
    record { parents = from ∷ into ∷ []; pairs = pair_of l m; ending = Replacing site.from_lit site.side site.into_lit site.path }
