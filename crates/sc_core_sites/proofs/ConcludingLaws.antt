-- The one parent that a site names, and conclusions of sites.
use Rattle.std.proofs.Common.{◌≡◌, ◌≢◌, ◌∙◌, sym, ap, subst, ℕ, ◌⊎◌, inl, inr, List, [], ◌∷◌, map, Option, Some, None, Ok, Err, Result, slice_get, arith}
use Rattle.std.specs.Prelude.{AllPairs, IfOk}
use Rattle.std.specs.List.{Contains}
use Rattle.std.specs.Option.{option_map}
use Rattle.std.proofs.lemmas.List.Elements.{All-contains}
use Rattle.std.proofs.lemmas.Option.{slice_get-map}
use Rattle.sc_term.specs.declared.Numbered.{Numbered}
use Rattle.sc_input_rules.specs.declared.settings.Flags.{Flags}
use Rattle.sc_steps.specs.declared.derivations.made.Made.{Made}
use Rattle.sc_core_rules.specs.declared.site.BinarySite.{BinarySite}
use Rattle.sc_core_rules.specs.declared.site.ParaSite.{ParaSite}
use Rattle.sc_core_rules.specs.Inference.{Inference}
use Rattle.sc_core_rules.specs.Resolution.{IsBinary}
use Rattle.sc_core_rules.specs.Paramodulation.{IsPara, IsParaFrom, IsParaInto}
use Rattle.sc_core_rules.specs.Sites.{Site, Infers, IsSite, AreSites}
use Rattle.sc_core_rules.proofs.OrderLaws.{first_before, tail_pairs}
use Rattle.sc_term.proofs.ContainsLaws.{at_first, first_or_later}
use Rattle.sc_core_rules.proofs.SimplifyLaws.{NumbersTell}
use Rattle.sc_resolve.specs.Made.{Makes}
use Rattle.sc_resolve.proofs.LiteralLaws.{contains_at}
use Rattle.sc_core_sites.specs.declared.site.Site.{Site as Told}
use Rattle.sc_core_sites.specs.Sites.{site_of, IsConclusion}

-- ---- numbers that differ tell clauses

abbrev Differ : Numbered → Numbered → Type 0
Differ p q = p.number ≢ q.number

tells : (ps : List Numbered) → AllPairs (λ p q. p.number ≢ q.number) ps → NumbersTell ps
tells [] differ x y h k e = absurd (omega (arith, h.1))
tells (p ∷ ps) differ x y h k e = by (tells ps (tail_pairs Differ p ps differ)) (first_or_later x p ps h) (first_or_later y p ps k)
  where
    by : NumbersTell ps → (p ≡ x) ⊎ Contains ps x → (p ≡ y) ⊎ Contains ps y → x ≡ y
    by rest (inl a) (inl b) = sym a ∙ b
    by rest (inl a) (inr b) = absurd (first_before Differ p y ps differ b (ap (λ (q : Numbered). q.number) a ∙ e))
    by rest (inr a) (inl b) = absurd (first_before Differ p x ps differ a (ap (λ (q : Numbered). q.number) b ∙ sym e))
    by rest (inr a) (inr b) = rest x y a b e

-- ---- what every inference has is the conclusion

pub concludes : {E : Type 0} (given : Numbered) (parents : List Numbered) (site : Site) (result : Result (Option Made) E) → (i : Inference) × Infers given parents site i
    → ((i : Inference) → Infers given parents site i → IfOk result (λ made. Makes i made)) → IfOk result (λ made. IsConclusion given parents site made)
concludes given parents site (Err e) one all = tt
concludes given parents site (Ok None) one all = λ i d h. all i h d
concludes given parents site (Ok (Some m)) one all = (one.0, one.1, all one.0 one.1)

-- the same where the site is told as a value
pub concludes_told : {E : Type 0} (given : Numbered) (parents : List Numbered) (x : Told) (site : Site) → site_of x ≡ site → (result : Result (Option Made) E)
    → (i : Inference) × Infers given parents (site_of x) i → ((i : Inference) → Infers given parents site i → IfOk result (λ made. Makes i made))
    → IfOk result (λ made. IsConclusion given parents (site_of x) made)
concludes_told given parents x site e result one all =
    concludes given parents (site_of x) result one (λ i h. all i (subst (λ (s : Site). Infers given parents s i) e h))

-- ---- the parent of the number

module _ (given : Numbered) (parents : List Numbered) (differ : AllPairs (λ p q. p.number ≢ q.number) parents) (n : ℕ) (p : Numbered) (named : p.number ≡ n) (listed : Contains parents p) where
  this : (q : Numbered) → Contains parents q → q.number ≡ n → q ≡ p
  this q there e = tells parents differ q p there listed (e ∙ sym named)

  pub with_partner : (s : BinarySite) → s.partner ≡ n → (i : Inference) → IsBinary given parents s i → IsBinary given (p ∷ []) s i
  with_partner s e i h = record {
    partner = h.partner;
    listed = subst (Contains (p ∷ [])) (sym (this h.partner h.listed (h.named ∙ e))) (at_first p []);
    named = h.named;
    parents = h.parents;
    pairs = h.pairs;
    signs = h.signs;
    unify = h.unify;
    ending = h.ending;
  }

  pub into_this : (s : ParaSite) → s.into ≡ n → (i : Inference) → IsParaFrom given parents s i → IsPara given p s i
  into_this s e i h = subst (λ (q : Numbered). IsPara given q s i) (this h.into h.listed ((h.para).into_named ∙ e)) h.para

  pub from_this : (s : ParaSite) → s.from ≡ n → (i : Inference) → IsParaInto given parents s i → IsPara p given s i
  from_this s e i h = subst (λ (q : Numbered). IsPara q given s i) (this h.from h.listed ((h.para).from_named ∙ e)) h.para

-- ---- sites of a list

-- each has an inference
pub listed_infers : (flags : Flags) (given : Numbered) (usable : List Numbered) (limit : ℕ) (sites : List Told) → AreSites flags given usable limit (map site_of sites)
    → (k : ℕ) (x : Told) → slice_get sites k ≡ Some x → (i : Inference) × Infers given usable (site_of x) i
listed_infers flags given usable limit sites h k x e =
    let there : slice_get (map site_of sites) k ≡ Some (site_of x) = slice_get-map site_of sites k ∙ ap (option_map site_of) e in
    (All-contains (IsSite flags given usable) (map site_of sites) (site_of x) h.only (contains_at (map site_of sites) k (site_of x) there)).1
