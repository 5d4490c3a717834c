-- The first site with the only usable clause is one with that clause.
use Rattle.std.proofs.Common.{◌≡◌, sym, subst, ℕ, List, [], ◌∷◌, Some, slice_get, get_or}
use Rattle.std.specs.List.{Contains}
use Rattle.std.proofs.lemmas.Option.{slice_get_within, get_or_from_slice_get}
use Rattle.sc_term.specs.declared.Numbered.{Numbered}
use Rattle.sc_core_rules.specs.declared.site.ParaSite.{ParaSite}
use Rattle.sc_core_rules.specs.Inference.{Inference}
use Rattle.sc_core_rules.specs.Paramodulation.{IsPara, IsParaFrom, AreParaFromSites}
use Rattle.sc_core_rules.proofs.Enumerations.{in_one}

pub first_site : (from into : Numbered) (usable : List Numbered) (limit : ℕ) (sites : List ParaSite) (x : ParaSite) → usable ≡ into ∷ [] → AreParaFromSites from usable limit sites
    → slice_get sites 0 ≡ Some x → (i : Inference) × IsPara from into x i
first_site from into usable limit sites x only h there =
    let site = subst (λ (y : ParaSite). (i : Inference) × IsParaFrom from usable y i) (get_or_from_slice_get sites 0 x x there) (h.only 0 x (slice_get_within sites 0 x there)) in
    let same : into ≡ site.1.into = in_one into site.1.into (subst (λ (ps : List Numbered). Contains ps site.1.into) only site.1.listed) in
    (site.0, subst (λ (p : Numbered). IsPara from p x site.0) (sym same) site.1.para)
