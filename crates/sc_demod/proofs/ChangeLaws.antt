-- The change at a redex, as the code makes it.
use Rattle.std.proofs.Common.{◌≡◌, ◌∙◌, sym, ap, subst, ℕ, ◌<◌, ◌⊎◌, inl, inr, List, [], ◌∷◌, ◌++◌, length, get_or, Some}
use Rattle.std.specs.List.{All, AllPairs, Contains}
use Rattle.std.proofs.lemmas.List.{get_or_default}
use Rattle.sc_term.specs.declared.Term.{Term}
use Rattle.sc_term.specs.declared.Clause.{Clause}
use Rattle.sc_term.specs.declared.Line.{Line}
use Rattle.sc_term.specs.declared.Numbered.{Numbered}
use Rattle.sc_term.specs.declared.Step.TheVariants.{Para}
use Rattle.sc_term.specs.declared.Side.TheVariants.{Left}
use Rattle.sc_term.specs.Term.{term_instance}
use Rattle.sc_term.specs.Clause.{width, instance, IsWithinLimits}
use Rattle.sc_steps.specs.Derivation.{last_clause}
use Rattle.sc_core_rules.specs.Derivation.{AddsPart, AreTermsTo}
use Rattle.sc_core_rules.specs.Rewriting.{IsEquation, IsDemodulator}
use Rattle.sc_core_rules.proofs.FilterLaws.{in_either}
use Rattle.sc_core_rules.proofs.NestLaws.{pairs_append}
use Rattle.sc_core_rules.proofs.Enumerations.{in_one, pairs_of_one}
use Rattle.sc_core_rules.proofs.SimplifyLaws.{same_sides}
use Rattle.sc_demod.specs.Finding.{FindsIn}
use Rattle.sc_demod.specs.Rewriting.{AreDemods, AllAgree, IsPutIn, IsChange, IsIrreducible, IsRewritten}
use Rattle.sc_demod.proofs.RewriteLaws.{fit_width, terms_of_fit, value_of_fit}
use Rattle.sc_demod.proofs.RewriteSteps.{listed, heavy_part, heavy_result, is_rewritten}

module _ (demods : List Numbered) (are : AreDemods demods) (c : Clause) (b : ℕ) (path : List ℕ) (place : ℕ) (terms : List Term) (f : FindsIn demods c.literals b path place terms) (e : Numbered) (at : e ≡ get_or demods place e) where
  abbrev d : Numbered
  d = (f.found.fits).demodulator

  abbrev redex : Term
  redex = (f.found).redex

  -- the demodulator read at its place
  pub same : d ≡ e
  same = f.found.fits.there ∙ get_or_default demods place d e f.found.fits.within ∙ sym at

  pub long : length terms ≡ width e.clause
  long = f.found.fits.fit.long ∙ sym (fit_width d redex terms f.found.fits.fit (are.all d (listed demods are c b path place terms f))) ∙ ap (λ (q : Numbered). width q.clause) same

  part_of : (part : Clause) → part ≡ instance terms e.clause → part ≡ instance terms d.clause
  part_of part is = is ∙ ap (λ (q : Numbered). instance terms q.clause) (sym same)

  pub too_heavy : ¬ IsWithinLimits (instance terms e.clause) → IsIrreducible demods c
  too_heavy not = heavy_part demods are c b path place terms f (λ w. not (subst (λ (q : Numbered). IsWithinLimits (instance terms q.clause)) same w))

  left_is : (part : Clause) (s v : Term) → part ≡ instance terms e.clause → IsEquation part s v → s ≡ redex
  left_is part s v is equates =
      let right : Term = (f.found.fits.fit).right in
      (same_sides s v redex (term_instance terms right) (sym equates ∙ ap (λ (c : Clause). c.literals) (part_of part is) ∙ value_of_fit d redex terms f.found.fits.fit)).0

  put_is : (part result : Clause) (s v : Term) (way : List ℕ) → part ≡ instance terms e.clause → IsEquation part s v → way ≡ path → IsPutIn c b way s v result → IsPutIn c b path redex v result
  put_is part result s v way is equates same_way put =
      subst (λ (t : Term). IsPutIn c b path t v result) (left_is part s v is equates) (subst (λ p. IsPutIn c b p s v result) same_way put)

  equates_is : (part : Clause) (s v : Term) → part ≡ instance terms e.clause → IsEquation part s v → IsEquation part redex v
  equates_is part s v is equates = subst (λ (t : Term). IsEquation part t v) (left_is part s v is equates) equates

  pub result_heavy : (part result : Clause) (s v : Term) (way : List ℕ) → part ≡ instance terms e.clause → IsEquation part s v → way ≡ path → IsPutIn c b way s v result → ¬ IsWithinLimits result
      → IsIrreducible demods c
  result_heavy part result s v way is equates same_way put not =
      heavy_result demods are c b path place terms f part result v (part_of part is) (equates_is part s v is equates) (put_is part result s v way is equates same_way put) not

  pub is_change : (part result : Clause) (s v : Term) (way : List ℕ) → part ≡ instance terms e.clause → IsEquation part s v → way ≡ path → IsPutIn c b way s v result → IsWithinLimits part → IsWithinLimits result
      → IsChange demods c b path place terms part result
  is_change part result s v way is equates same_way put light small = record {
    found = f;
    part_is = part_of part is;
    value = v;
    is_value = equates_is part s v is equates;
    put = put_is part result s v way is equates same_way put;
    part_within = light;
    after_within = small;
  }

-- the terms of a change take the demodulator, read at its place, to its part
pub terms_of_change : (demods : List Numbered) (are : AreDemods demods) (c : Clause) (b : ℕ) (path : List ℕ) (place : ℕ) (terms : List Term) (part result : Clause) (x : IsChange demods c b path place terms part result)
    (e : Numbered) → e ≡ get_or demods place e → AreTermsTo e.clause part terms
terms_of_change demods are c b path place terms part result x e at =
    let f = x.found in
    let d : Numbered = (x.found.found.fits).demodulator in
    let whole = terms_of_fit d ((x.found.found).redex) terms (x.found.found.fits).fit (are.all d (listed demods are c b path place terms x.found)) in
    subst (λ (q : Numbered). AreTermsTo q.clause part terms) (same demods are c b path place terms x.found e at) (subst (λ (q : Clause). AreTermsTo d.clause q terms) (sym x.part_is) whole)

pub change_rewrites : (demods : List Numbered) (are : AreDemods demods) (c : Clause) (b : ℕ) (path : List ℕ) (place : ℕ) (terms : List Term) (part result : Clause)
    (x : IsChange demods c b path place terms part result) (e : Numbered) → e ≡ get_or demods place e → (before mid after : List Line) (k : ℕ) → last_clause before ≡ Some c → AllAgree before demods
    → AddsPart before e part mid k → after ≡ mid ++ record { step = Para k 1 Left (length before) b path; clause = result } ∷ [] → IsRewritten demods before after result
change_rewrites demods are c b path place terms part result x e at before mid after k last agrees shows grows =
    let d : Numbered = (x.found.found.fits).demodulator in
    is_rewritten demods are c b path place terms part result x before mid after k last (agrees d (listed demods are c b path place terms x.found))
    (subst (λ (q : Numbered). AddsPart before q part mid k) (sym (same demods are c b path place terms x.found e at)) shows) grows

pub demods_push : (ds new : List Numbered) (d : Numbered) → AreDemods ds → IsDemodulator d.clause → All (λ p. p.number < d.number) ds → new ≡ ds ++ d ∷ [] → AreDemods new
demods_push ds new d are is greatest grows = subst AreDemods (sym grows) (record { rising = rising; all = all })
  where
    below : (x : Numbered) → Contains ds x → x.number < d.number
    below x there = subst (λ (q : Numbered). q.number < d.number) there.2 (greatest there.0 x there.1)

    rising : AllPairs (λ p q. p.number < q.number) (ds ++ d ∷ [])
    rising = pairs_append (λ (p q : Numbered). p.number < q.number) ds (d ∷ []) are.rising (pairs_of_one (λ (p q : Numbered). p.number < q.number) d)
        (λ x y h k. subst (λ (q : Numbered). x.number < q.number) (in_one d y k) (below x h))

    all : (x : Numbered) → Contains (ds ++ d ∷ []) x → IsDemodulator x.clause
    all x there = by (in_either x ds (d ∷ []) there)
      where
        by : Contains ds x ⊎ Contains (d ∷ []) x → IsDemodulator x.clause
        by (inl h) = are.all x h
        by (inr h) = subst (λ (q : Numbered). IsDemodulator q.clause) (in_one d x h) is
