-- The sites that the loops over usable clauses find are those of paramodulation from and into the given clause.
use Rattle.std.proofs.Common.{◌≡◌, ◌∙◌, sym, subst, ℕ, ◌-◌, ◌<◌, ◌⊎◌, inl, inr, List, [], length, Some, slice_get, get_or, arith}
use Rattle.std.specs.List.{AllPairs, Contains, All}
use Rattle.std.proofs.lemmas.Option.{slice_get_within, get_or_from_slice_get}
use Rattle.sc_term.specs.declared.Numbered.{Numbered}
use Rattle.sc_core_rules.specs.declared.site.ParaSite.{ParaSite}
use Rattle.sc_core_rules.specs.Order.{IsBefore}
use Rattle.sc_core_rules.specs.Inference.{Inference}
use Rattle.sc_core_rules.specs.Paramodulation.{IsParaFrom, IsParaInto, para_from_numbers, para_into_numbers, AreParaFromSites, AreParaIntoSites}
use Rattle.sc_core_rules.proofs.StepLaws.{same_some}
use Rattle.sc_resolve.specs.ByNumber.{AreByNumber}
use Rattle.sc_resolve.specs.Extending.{Extends, Below}
use Rattle.sc_resolve.proofs.Extending.{Rising, same}
use Rattle.sc_resolve.proofs.OrderLaws.{first_by_number}
use Rattle.sc_resolve.proofs.LiteralLaws.{contains_at, at_contains}
use Rattle.sc_para.specs.Spots.{pair_numbers}
use Rattle.sc_para.specs.Pairs.{IsPairSite, IsIntoPartner, IsFromPartner}

-- ---- other numbers in the same order

renumbered : {X : Type 0} (numbers others : X → List ℕ) (limit : ℕ) (P : X → Type 0) (xs ys : List X)
    → ((x y : X) → P x → P y → IsBefore (numbers x) (numbers y) → IsBefore (others x) (others y)) → Extends numbers P limit xs ys → Extends others P limit xs ys
renumbered {X} numbers others limit P xs ys to h = record {
  found = h.found;
  grown = h.grown;
  first = record {
    rising = λ i j d less within. to _ _ (h.first.only i d (omega arith)) (h.first.only j d within) (h.first.rising i j d less within);
    only = h.first.only;
    no_more = h.first.no_more;
    first = λ x p. by x p (h.first.first x p);
  };
}
  where
    by : (x : X) → P x → Contains h.found x ⊎ ((length h.found ≡ limit - length xs) × All (λ y. IsBefore (numbers y) (numbers x)) h.found)
        → Contains h.found x ⊎ ((length h.found ≡ limit - length xs) × All (λ y. IsBefore (others y) (others x)) h.found)
    by x p (inl c) = inl c
    by x p (inr f) = inr (f.0, λ k d less. to _ x (h.first.only k d less) p (f.1 k d less))

-- the numbers of usable clauses rise
partners : (usable : List Numbered) → AllPairs (λ p q. p.number < q.number) usable → (j k : ℕ) (p q : Numbered) → j < k → slice_get usable j ≡ Some p → slice_get usable k ≡ Some q → p.number < q.number
partners usable up j k p q less at_p at_q =
    subst (λ (r : Numbered). p.number < r.number) (get_or_from_slice_get usable k q p at_q)
    (subst (λ (r : Numbered). r.number < (get_or usable k p).number) (get_or_from_slice_get usable j p p at_p) (up j k p less (slice_get_within usable k q at_q)))

module _ (given : Numbered) (usable : List Numbered) where
  -- ---- from the given clause

  pub into_rise : AllPairs (λ p q. p.number < q.number) usable → Rising para_from_numbers (IsIntoPartner given usable)
  into_rise up j k x y less (p, at_p, h) (q, at_q, i) =
      let numbers = partners usable up j k p q less at_p at_q in
      inl (omega (arith, numbers, h.1.into_named, i.1.into_named))

  pub into_partner : (limit k : ℕ) (p : Numbered) → slice_get usable k ≡ Some p → (xs ys : List ParaSite)
      → Extends pair_numbers (IsPairSite given p) limit xs ys → Extends para_from_numbers (IsIntoPartner given usable k) limit xs ys
  into_partner limit k p there xs ys h =
      same para_from_numbers limit (IsPairSite given p) (IsIntoPartner given usable k) xs ys
      (renumbered pair_numbers para_from_numbers limit (IsPairSite given p) xs ys (λ x y a b before. inr (sym a.1.into_named ∙ b.1.into_named, before)) h)
      (λ x b. (p, there, b))
      (λ x b. subst (λ (q : Numbered). IsPairSite given q x) (same_some (slice_get usable k) b.0 p b.1 there) b.2)

  pub are_from_sites : (limit : ℕ) (sites : List ParaSite) → Extends para_from_numbers (Below (IsIntoPartner given usable) (length usable)) limit [] sites → AreParaFromSites given usable limit sites
  are_from_sites limit sites h =
      let all = same para_from_numbers limit (Below (IsIntoPartner given usable) (length usable)) (λ x. (i : Inference) × IsParaFrom given usable x i) [] sites h
      (λ x b. (b.2.2.0, record { into = b.2.0; listed = contains_at usable b.0 b.2.0 b.2.1; para = b.2.2.1 }))
      (λ x b. (b.1.listed.0, b.1.listed.1, (b.1.into, at_contains usable b.1.into b.1.listed, (b.0, b.1.para)))) in
      let room : limit - 0 ≡ limit = omega arith in
      subst (AreParaFromSites given usable limit) (sym all.grown) (subst (λ n. AreParaFromSites given usable n all.found) room all.first)

  -- ---- into the given clause

  pub from_rise : AllPairs (λ p q. p.number < q.number) usable → Rising para_into_numbers (IsFromPartner given usable)
  from_rise up j k x y less (p, at_p, h) (q, at_q, i) =
      let numbers = partners usable up j k p q less at_p at_q in
      inl (omega (arith, numbers, h.1.from_named, i.1.from_named))

  pub from_partner : (limit k : ℕ) (p : Numbered) → slice_get usable k ≡ Some p → (xs ys : List ParaSite)
      → Extends pair_numbers (IsPairSite p given) limit xs ys → Extends para_into_numbers (IsFromPartner given usable k) limit xs ys
  from_partner limit k p there xs ys h =
      same para_into_numbers limit (IsPairSite p given) (IsFromPartner given usable k) xs ys
      (renumbered pair_numbers para_into_numbers limit (IsPairSite p given) xs ys (λ x y a b before. inr (sym a.1.from_named ∙ b.1.from_named, before)) h)
      (λ x b. (p, there, b))
      (λ x b. subst (λ (q : Numbered). IsPairSite q given x) (same_some (slice_get usable k) b.0 p b.1 there) b.2)

  pub are_into_sites : (limit : ℕ) (sites : List ParaSite) → Extends para_into_numbers (Below (IsFromPartner given usable) (length usable)) limit [] sites → AreParaIntoSites given usable limit sites
  are_into_sites limit sites h =
      let all = same para_into_numbers limit (Below (IsFromPartner given usable) (length usable)) (λ x. (i : Inference) × IsParaInto given usable x i) [] sites h
      (λ x b. (b.2.2.0, record { from = b.2.0; listed = contains_at usable b.0 b.2.0 b.2.1; para = b.2.2.1 }))
      (λ x b. (b.1.listed.0, b.1.listed.1, (b.1.from, at_contains usable b.1.from b.1.listed, (b.0, b.1.para)))) in
      let room : limit - 0 ≡ limit = omega arith in
      subst (AreParaIntoSites given usable limit) (sym all.grown) (subst (λ n. AreParaIntoSites given usable n all.found) room all.first)

-- ---- the same clauses in another order

-- the sites with partners in the order of their numbers are those with the usable clauses
pub from_sites_by_number : (given : Numbered) (usable ordered : List Numbered) (limit : ℕ) (sites : List ParaSite)
    → AreByNumber usable ordered → AreParaFromSites given ordered limit sites → AreParaFromSites given usable limit sites
from_sites_by_number given usable ordered limit sites h first =
    first_by_number para_from_numbers (λ ps x. (i : Inference) × IsParaFrom given ps x i) usable ordered limit sites
    (λ ps qs more x s. (s.0, record { into = s.1.into; listed = more s.1.into s.1.listed; para = s.1.para })) h first

pub into_sites_by_number : (given : Numbered) (usable ordered : List Numbered) (limit : ℕ) (sites : List ParaSite)
    → AreByNumber usable ordered → AreParaIntoSites given ordered limit sites → AreParaIntoSites given usable limit sites
into_sites_by_number given usable ordered limit sites h first =
    first_by_number para_into_numbers (λ ps x. (i : Inference) × IsParaInto given ps x i) usable ordered limit sites
    (λ ps qs more x s. (s.0, record { from = s.1.from; listed = more s.1.from s.1.listed; para = s.1.para })) h first
