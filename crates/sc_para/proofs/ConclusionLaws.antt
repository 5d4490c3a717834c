-- A conclusion of paramodulation, put together.
use Rattle.std.proofs.Common.{◌≡◌, ◌∙◌, sym, ap, subst, refl, ℕ, List, [], ◌∷◌, Some, true}
use Rattle.sc_term.specs.declared.Side.{Side}
use Rattle.sc_term.specs.declared.Term.{Term}
use Rattle.sc_term.specs.declared.Literal.{Literal}
use Rattle.sc_term.specs.declared.Clause.{Clause}
use Rattle.sc_term.specs.Numbering.{numbered}
use Rattle.sc_term.specs.Path.{IsSubtermAt, IsReplaced}
use Rattle.sc_term.specs.Proof.{chosen, other}
use Rattle.sc_term.specs.Refuted.{equation}
use Rattle.sc_core_rules.specs.declared.site.ParaSite.{ParaSite}
use Rattle.sc_core_rules.proofs.StepLaws.{same_some}
use Rattle.sc_core_rules.proofs.SimplifyLaws.{subterm_one}
use Rattle.sc_para.specs.Conclusion.{AreSidesOf, IsFitting, IsChanged}
use Rattle.sc_para.proofs.ReplacingLaws.{can_replace, replaced_is}

-- ---- the changed literal

pub sides_one : (ls : List Literal) (n : ℕ) (side : Side) (s t u v : Term) → AreSidesOf ls n side s t → AreSidesOf ls n side u v → (s ≡ u) × (t ≡ v)
sides_one ls n side s t u v (l, r, at, e, f) (l', r', at', e', f') =
    let one : equation true l r ≡ equation true l' r' = same_some (numbered ls n) (equation true l r) (equation true l' r') at at' in
    let args : l ∷ r ∷ [] ≡ l' ∷ r' ∷ [] = ap (λ (m : Literal). m.args) one in
    let left : l ≡ l' = cc in
    let right : r ≡ r' = cc in
    (e ∙ (λ i. chosen side (left i) (right i)) ∙ sym e', f ∙ (λ i. other side (left i) (right i)) ∙ sym f')

module _ (left right : Clause) (site : ParaSite) (fit : IsFitting left right site) (s t : Term) (sides : AreSidesOf left.literals site.from_lit site.side s t)
    (target : Literal) (there : numbered right.literals site.into_lit ≡ Some target) where
  subterm : IsSubtermAt target.args site.path s
  subterm =
      subst (IsSubtermAt target.args site.path) (sides_one left.literals site.from_lit site.side fit.s fit.t s t fit.sides sides).0
      (subst (λ (m : Literal). IsSubtermAt m.args site.path fit.s) (same_some (numbered right.literals site.into_lit) fit.there.0 target fit.there.1 there) fit.there.2)

  pub must_change : ((u : Term) (new : List Term) → ¬ IsReplaced target.args site.path u t new) → ⊥
  must_change never = let can = can_replace target.args site.path s t subterm in never s can.0 can.1

  pub is_changed : (u : Term) (args : List Term) → IsReplaced target.args site.path u t args → IsChanged left right site (record target { args = args })
  is_changed u args h = record {
    s = s;
    t = t;
    sides = sides;
    target = target;
    target_there = there;
    args = args;
    replaced = subst (λ (v : Term). IsReplaced target.args site.path v t args) (subterm_one target.args site.path u s (replaced_is target.args site.path u t args h) subterm) h;
    is = refl;
  }
