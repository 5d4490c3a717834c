use Rattle.std.proofs.Common.{◌≡◌, ◌∙◌, sym, ap, subst, ℕ, List, ◌∷◌, map, Some, None, Option, slice_get}
use Rattle.sc_term.specs.declared.Numbered.{Numbered}
use Rattle.sc_core_rules.specs.declared.site.Pick.{Pick}
use Rattle.sc_core_rules.specs.Hyperresolution.{AreNamed, picked_numbers, picked_literals}
use Rattle.sc_core_rules.proofs.StepLaws.{same_some}
use Rattle.sc_hyper.specs.Negatives.{ArePicked, IsNegative}
use Rattle.sc_hyper.proofs.ConclusionLaws.{is_hyper, found_named, first_kept, ready_to_make}
use Rattle.sc_hyper.proofs.makers.make_hyper.Goals as goal

pub returns-in-None : goal.returns-in-None
returns-in-None c = λ given i h d k.
    let usable = c.args.usable.now in
    let site = c.args.site.now in
    let ps : List Numbered = h.nucleus ∷ h.electrons in
    let named : AreNamed usable (site.nucleus ∷ picked_numbers site) ps = (h.nucleus_named.0, h.electrons_named) in
    let found = found_named usable c.as_slice.result.now (site.nucleus ∷ picked_numbers site) (site.nucleus ∷ c.in_ok-electrons.electrons) ps c.in_ok-parents.field-0 c.as_slice.ensures (ap (λ (ns : List ℕ). site.nucleus ∷ ns) (c.in_ok-electrons.ensures ∙ ap (λ (xs : List Pick). map (λ (p : Pick). p.number) xs) c.as_slice-picks.ensures)) named c.in_ok-parents.ensures in
    let bad : ◌≡◌ {A = Option (List Numbered)} None (Some ps) = sym c.in-None.is ∙ found in cc

pub returns-in-None-get : goal.returns-in-None-get
returns-in-None-get c = λ given i h d k.
    let usable = c.args.usable.now in
    let site = c.args.site.now in
    let ps : List Numbered = h.nucleus ∷ h.electrons in
    let named : AreNamed usable (site.nucleus ∷ picked_numbers site) ps = (h.nucleus_named.0, h.electrons_named) in
    let found = found_named usable c.as_slice.result.now (site.nucleus ∷ picked_numbers site) (site.nucleus ∷ c.in_ok-electrons.electrons) ps c.in_ok-parents.field-0 c.as_slice.ensures (ap (λ (ns : List ℕ). site.nucleus ∷ ns) (c.in_ok-electrons.ensures ∙ ap (λ (xs : List Pick). map (λ (p : Pick). p.number) xs) c.as_slice-picks.ensures)) named c.in_ok-parents.ensures in
    let parents : c.in-Some.parents ≡ ps = same_some c.in_ok-parents.field-0 c.in-Some.parents ps c.in-Some.is found in
    let bad : ◌≡◌ {A = Option Numbered} None (Some h.nucleus) = c.in-None-get.ensures.value ∙ ap (λ (xs : List Numbered). slice_get xs 0) parents in cc

pub negative_literals-requires : goal.negative_literals-requires
negative_literals-requires c =
    let usable = c.args.usable.now in
    let site = c.args.site.now in
    let ps : List Numbered = c.requires.site.2.nucleus ∷ c.requires.site.2.electrons in
    let named : AreNamed usable (site.nucleus ∷ picked_numbers site) ps = (c.requires.site.2.nucleus_named.0, c.requires.site.2.electrons_named) in
    let found = found_named usable c.as_slice.result.now (site.nucleus ∷ picked_numbers site) (site.nucleus ∷ c.in_ok-electrons.electrons) ps c.in_ok-parents.field-0 c.as_slice.ensures (ap (λ (ns : List ℕ). site.nucleus ∷ ns) (c.in_ok-electrons.ensures ∙ ap (λ (xs : List Pick). map (λ (p : Pick). p.number) xs) c.as_slice-picks.ensures)) named c.in_ok-parents.ensures in
    let parents : c.in-Some.parents ≡ ps = same_some c.in_ok-parents.field-0 c.in-Some.parents ps c.in-Some.is found in
    let q = c.in-Some-get.nucleus.now in
    first_kept usable (site.nucleus ∷ picked_numbers site) ps c.in-Some.parents q c.requires.kept named parents (sym c.in-Some-get.ensures.value)

pub conclusion-requires-clause-few : goal.conclusion-requires-clause-few
conclusion-requires-clause-few c =
    let usable = c.args.usable.now in
    let site = c.args.site.now in
    let ps : List Numbered = c.requires.site.2.nucleus ∷ c.requires.site.2.electrons in
    let named : AreNamed usable (site.nucleus ∷ picked_numbers site) ps = (c.requires.site.2.nucleus_named.0, c.requires.site.2.electrons_named) in
    let found = found_named usable c.as_slice.result.now (site.nucleus ∷ picked_numbers site) (site.nucleus ∷ c.in_ok-electrons.electrons) ps c.in_ok-parents.field-0 c.as_slice.ensures (ap (λ (ns : List ℕ). site.nucleus ∷ ns) (c.in_ok-electrons.ensures ∙ ap (λ (xs : List Pick). map (λ (p : Pick). p.number) xs) c.as_slice-picks.ensures)) named c.in_ok-parents.ensures in
    let parents : c.in-Some.parents ≡ ps = same_some c.in_ok-parents.field-0 c.in-Some.parents ps c.in-Some.is found in
    let q = c.in-Some-get.nucleus.now in
    let all = ready_to_make usable c.requires.kept c.requires.differ IsNegative (site.nucleus ∷ picked_numbers site) c.requires.site.2.nucleus c.requires.site.2.electrons c.as_slice-2.result.now q c.requires.site.2.negative c.as_slice-3.result.now c.in_ok-negative.negative.literals (picked_literals site) c.as_slice-4.result.now c.requires.site.1 named
    (c.as_slice-2.ensures ∙ parents) (ap (λ (xs : List Numbered). slice_get xs 0) c.as_slice-2.ensures ∙ sym c.in-Some-get.ensures.value) c.requires.site.2.are_negative
    (subst (λ (ns : List ℕ). ArePicked IsNegative q.clause ns c.in_ok-negative.negative.literals) (sym c.as_slice-3.ensures) c.in_ok-negative.ensures.are) c.in_ok-negative.ensures.few (c.as_slice-4.ensures ∙ c.in_ok-others.ensures ∙ ap (λ (xs : List Pick). map (λ (p : Pick). p.lit) xs) c.as_slice-picks.ensures) (is_hyper c.requires.site.0 usable site c.requires.site.1 c.requires.site.2) in
    all.few

pub conclusion-requires-clause-kept : goal.conclusion-requires-clause-kept
conclusion-requires-clause-kept c =
    let usable = c.args.usable.now in
    let site = c.args.site.now in
    let ps : List Numbered = c.requires.site.2.nucleus ∷ c.requires.site.2.electrons in
    let named : AreNamed usable (site.nucleus ∷ picked_numbers site) ps = (c.requires.site.2.nucleus_named.0, c.requires.site.2.electrons_named) in
    let found = found_named usable c.as_slice.result.now (site.nucleus ∷ picked_numbers site) (site.nucleus ∷ c.in_ok-electrons.electrons) ps c.in_ok-parents.field-0 c.as_slice.ensures (ap (λ (ns : List ℕ). site.nucleus ∷ ns) (c.in_ok-electrons.ensures ∙ ap (λ (xs : List Pick). map (λ (p : Pick). p.number) xs) c.as_slice-picks.ensures)) named c.in_ok-parents.ensures in
    let parents : c.in-Some.parents ≡ ps = same_some c.in_ok-parents.field-0 c.in-Some.parents ps c.in-Some.is found in
    let q = c.in-Some-get.nucleus.now in
    let all = ready_to_make usable c.requires.kept c.requires.differ IsNegative (site.nucleus ∷ picked_numbers site) c.requires.site.2.nucleus c.requires.site.2.electrons c.as_slice-2.result.now q c.requires.site.2.negative c.as_slice-3.result.now c.in_ok-negative.negative.literals (picked_literals site) c.as_slice-4.result.now c.requires.site.1 named
    (c.as_slice-2.ensures ∙ parents) (ap (λ (xs : List Numbered). slice_get xs 0) c.as_slice-2.ensures ∙ sym c.in-Some-get.ensures.value) c.requires.site.2.are_negative
    (subst (λ (ns : List ℕ). ArePicked IsNegative q.clause ns c.in_ok-negative.negative.literals) (sym c.as_slice-3.ensures) c.in_ok-negative.ensures.are) c.in_ok-negative.ensures.few (c.as_slice-4.ensures ∙ c.in_ok-others.ensures ∙ ap (λ (xs : List Pick). map (λ (p : Pick). p.lit) xs) c.as_slice-picks.ensures) (is_hyper c.requires.site.0 usable site c.requires.site.1 c.requires.site.2) in
    all.kept

pub conclusion-requires-clause-one : goal.conclusion-requires-clause-one
conclusion-requires-clause-one c =
    let usable = c.args.usable.now in
    let site = c.args.site.now in
    let ps : List Numbered = c.requires.site.2.nucleus ∷ c.requires.site.2.electrons in
    let named : AreNamed usable (site.nucleus ∷ picked_numbers site) ps = (c.requires.site.2.nucleus_named.0, c.requires.site.2.electrons_named) in
    let found = found_named usable c.as_slice.result.now (site.nucleus ∷ picked_numbers site) (site.nucleus ∷ c.in_ok-electrons.electrons) ps c.in_ok-parents.field-0 c.as_slice.ensures (ap (λ (ns : List ℕ). site.nucleus ∷ ns) (c.in_ok-electrons.ensures ∙ ap (λ (xs : List Pick). map (λ (p : Pick). p.number) xs) c.as_slice-picks.ensures)) named c.in_ok-parents.ensures in
    let parents : c.in-Some.parents ≡ ps = same_some c.in_ok-parents.field-0 c.in-Some.parents ps c.in-Some.is found in
    let q = c.in-Some-get.nucleus.now in
    let all = ready_to_make usable c.requires.kept c.requires.differ IsNegative (site.nucleus ∷ picked_numbers site) c.requires.site.2.nucleus c.requires.site.2.electrons c.as_slice-2.result.now q c.requires.site.2.negative c.as_slice-3.result.now c.in_ok-negative.negative.literals (picked_literals site) c.as_slice-4.result.now c.requires.site.1 named
    (c.as_slice-2.ensures ∙ parents) (ap (λ (xs : List Numbered). slice_get xs 0) c.as_slice-2.ensures ∙ sym c.in-Some-get.ensures.value) c.requires.site.2.are_negative
    (subst (λ (ns : List ℕ). ArePicked IsNegative q.clause ns c.in_ok-negative.negative.literals) (sym c.as_slice-3.ensures) c.in_ok-negative.ensures.are) c.in_ok-negative.ensures.few (c.as_slice-4.ensures ∙ c.in_ok-others.ensures ∙ ap (λ (xs : List Pick). map (λ (p : Pick). p.lit) xs) c.as_slice-picks.ensures) (is_hyper c.requires.site.0 usable site c.requires.site.1 c.requires.site.2) in
    all.one

pub conclusion-requires-clause-site : goal.conclusion-requires-clause-site
conclusion-requires-clause-site c =
    let usable = c.args.usable.now in
    let site = c.args.site.now in
    let ps : List Numbered = c.requires.site.2.nucleus ∷ c.requires.site.2.electrons in
    let named : AreNamed usable (site.nucleus ∷ picked_numbers site) ps = (c.requires.site.2.nucleus_named.0, c.requires.site.2.electrons_named) in
    let found = found_named usable c.as_slice.result.now (site.nucleus ∷ picked_numbers site) (site.nucleus ∷ c.in_ok-electrons.electrons) ps c.in_ok-parents.field-0 c.as_slice.ensures (ap (λ (ns : List ℕ). site.nucleus ∷ ns) (c.in_ok-electrons.ensures ∙ ap (λ (xs : List Pick). map (λ (p : Pick). p.number) xs) c.as_slice-picks.ensures)) named c.in_ok-parents.ensures in
    let parents : c.in-Some.parents ≡ ps = same_some c.in_ok-parents.field-0 c.in-Some.parents ps c.in-Some.is found in
    let q = c.in-Some-get.nucleus.now in
    let all = ready_to_make usable c.requires.kept c.requires.differ IsNegative (site.nucleus ∷ picked_numbers site) c.requires.site.2.nucleus c.requires.site.2.electrons c.as_slice-2.result.now q c.requires.site.2.negative c.as_slice-3.result.now c.in_ok-negative.negative.literals (picked_literals site) c.as_slice-4.result.now c.requires.site.1 named
    (c.as_slice-2.ensures ∙ parents) (ap (λ (xs : List Numbered). slice_get xs 0) c.as_slice-2.ensures ∙ sym c.in-Some-get.ensures.value) c.requires.site.2.are_negative
    (subst (λ (ns : List ℕ). ArePicked IsNegative q.clause ns c.in_ok-negative.negative.literals) (sym c.as_slice-3.ensures) c.in_ok-negative.ensures.are) c.in_ok-negative.ensures.few (c.as_slice-4.ensures ∙ c.in_ok-others.ensures ∙ ap (λ (xs : List Pick). map (λ (p : Pick). p.lit) xs) c.as_slice-picks.ensures) (is_hyper c.requires.site.0 usable site c.requires.site.1 c.requires.site.2) in
    (c.requires.site.1, all.resolution)

pub returns : goal.returns
returns c = λ given i h.
    let usable = c.args.usable.now in
    let site = c.args.site.now in
    let ps : List Numbered = h.nucleus ∷ h.electrons in
    let named : AreNamed usable (site.nucleus ∷ picked_numbers site) ps = (h.nucleus_named.0, h.electrons_named) in
    let found = found_named usable c.as_slice.result.now (site.nucleus ∷ picked_numbers site) (site.nucleus ∷ c.in_ok-electrons.electrons) ps c.in_ok-parents.field-0 c.as_slice.ensures (ap (λ (ns : List ℕ). site.nucleus ∷ ns) (c.in_ok-electrons.ensures ∙ ap (λ (xs : List Pick). map (λ (p : Pick). p.number) xs) c.as_slice-picks.ensures)) named c.in_ok-parents.ensures in
    let parents : c.in-Some.parents ≡ ps = same_some c.in_ok-parents.field-0 c.in-Some.parents ps c.in-Some.is found in
    let q = c.in-Some-get.nucleus.now in
    let all = ready_to_make usable c.requires.kept c.requires.differ IsNegative (site.nucleus ∷ picked_numbers site) h.nucleus h.electrons c.as_slice-2.result.now q h.negative c.as_slice-3.result.now c.in_ok-negative.negative.literals (picked_literals site) c.as_slice-4.result.now i named
    (c.as_slice-2.ensures ∙ parents) (ap (λ (xs : List Numbered). slice_get xs 0) c.as_slice-2.ensures ∙ sym c.in-Some-get.ensures.value) h.are_negative
    (subst (λ (ns : List ℕ). ArePicked IsNegative q.clause ns c.in_ok-negative.negative.literals) (sym c.as_slice-3.ensures) c.in_ok-negative.ensures.are) c.in_ok-negative.ensures.few (c.as_slice-4.ensures ∙ c.in_ok-others.ensures ∙ ap (λ (xs : List Pick). map (λ (p : Pick). p.lit) xs) c.as_slice-picks.ensures) (is_hyper given usable site i h) in
    c.conclusion.ensures i all.resolution
