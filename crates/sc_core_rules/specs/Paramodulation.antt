-- Paramodulation from and into the given clause: its sites and inferences.
use Rattle.std.specs.Prelude.{◌≡◌, ℕ, List, [], ◌∷◌, Contains, Some, true}
use Rattle.sc_term.specs.declared.SymId.{SymId}
use Rattle.sc_term.specs.declared.Side.{Side}
use Rattle.sc_term.specs.declared.Side.TheVariants.{Left, Right}
use Rattle.sc_term.specs.declared.Term.{Term}
use Rattle.sc_term.specs.declared.Term.TheVariants.{App}
use Rattle.sc_term.specs.declared.Literal.{Literal}
use Rattle.sc_term.specs.Refuted.{equals, equation}
use Rattle.sc_term.specs.Path.{IsSubtermAt}
use Rattle.sc_term.specs.Proof.{chosen}
use Rattle.sc_term.specs.declared.Numbered.{Numbered}
use Rattle.sc_core_rules.specs.declared.site.ParaSite.{ParaSite}
use Rattle.sc_term.specs.JointInstance.{apart}
use Rattle.sc_core_rules.specs.Inference.{Inference, Replacing, parent_clauses}
use Rattle.sc_term.specs.Substitution.{Unify}
use Rattle.sc_core_rules.specs.Pairing.{literal_at}
use Rattle.sc_core_rules.specs.Order.{AreFirst}

-- the term is no variable
abbrev pub IsCompound : Term → Type 0
IsCompound t = (f : SymId) × (args : List Term) × (t ≡ App f args)

-- a term as the one argument of an atom
abbrev pub atom_with : Term → Literal
atom_with t = record { positive = true; pred = equals; args = t ∷ [] }

-- a side, no variable, of a positive equation of `from` unifies with a subterm, no variable, of a literal of `into`; the
-- other side takes its place
pub record IsPara (from into : Numbered) (site : ParaSite) (i : Inference) : Type 0 where
  pub from_named : from.number ≡ site.from
  pub into_named : into.number ≡ site.into
  pub parents : i.parents ≡ from ∷ into ∷ []
  pub left : Term
  pub right : Term
  pub equation_there : literal_at (apart (parent_clauses i)) (record { parent = 1; lit = site.from_lit }) ≡ Some (equation true left right)
  pub side_compound : IsCompound (chosen site.side left right)
  pub target : Literal
  pub target_there : literal_at (apart (parent_clauses i)) (record { parent = 2; lit = site.into_lit }) ≡ Some target
  pub subterm : Term
  pub subterm_there : IsSubtermAt target.args site.path subterm
  pub subterm_compound : IsCompound subterm
  pub pairs : i.pairs ≡ record { left = atom_with (chosen site.side left right); right = atom_with subterm } ∷ []
  pub unify : Unify i.pairs
  pub ending : i.ending ≡ Replacing site.from_lit site.side site.into_lit site.path

-- the left side comes before the right
abbrev pub side_number : Side → ℕ
side_number Left = 0
side_number Right = 1

-- ---- from the given clause into a partner

-- the given clause has the equation, and a usable clause the subterm
pub record IsParaFrom (given : Numbered) (usable : List Numbered) (site : ParaSite) (i : Inference) : Type 0 where
  pub into : Numbered
  pub listed : Contains usable into
  pub para : IsPara given into site i

-- the numbers of a site: clause with the subterm, equation, side, literal, path
abbrev pub para_from_numbers : ParaSite → List ℕ
para_from_numbers s = s.into ∷ s.from_lit ∷ side_number s.side ∷ s.into_lit ∷ s.path

-- the first sites of paramodulation from the given clause, at most as many as the limit
abbrev pub AreParaFromSites : Numbered → List Numbered → ℕ → List ParaSite → Type 0
AreParaFromSites given usable limit sites = AreFirst para_from_numbers (λ site. (i : Inference) × IsParaFrom given usable site i) limit sites

-- ---- from a partner into the given clause

-- a usable clause has the equation, and the given clause the subterm
pub record IsParaInto (given : Numbered) (usable : List Numbered) (site : ParaSite) (i : Inference) : Type 0 where
  pub from : Numbered
  pub listed : Contains usable from
  pub para : IsPara from given site i

-- the numbers of a site: clause with the equation, equation, side, literal, path
abbrev pub para_into_numbers : ParaSite → List ℕ
para_into_numbers s = s.from ∷ s.from_lit ∷ side_number s.side ∷ s.into_lit ∷ s.path

-- the first sites of paramodulation into the given clause
abbrev pub AreParaIntoSites : Numbered → List Numbered → ℕ → List ParaSite → Type 0
AreParaIntoSites given usable limit sites = AreFirst para_into_numbers (λ site. (i : Inference) × IsParaInto given usable site i) limit sites
