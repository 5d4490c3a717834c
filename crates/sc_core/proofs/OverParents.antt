-- The clauses that a site names are usable, and its conclusion over them is that over the usable clauses.
use Rattle.std.proofs.Common.{◌≡◌, ◌∙◌, ℕ, ◌⊎◌, inl, inr, List, [], ◌∷◌, Option, Some, None}
use Rattle.std.specs.List.{Contains}
use Rattle.sc_term.specs.declared.Numbered.{Numbered}
use Rattle.sc_steps.specs.declared.derivations.made.Made.{Made}
use Rattle.sc_core_rules.specs.Hyperresolution.{AreNamed, picked_numbers}
use Rattle.sc_core_rules.specs.Inference.{Inference}
use Rattle.sc_core_rules.specs.Sites.{Site, Binary, Factor, Hyper, Ur, ParaFrom, ParaInto, Infers}
use Rattle.sc_core_rules.proofs.Enumerations.{in_none, in_one}
use Rattle.sc_term.proofs.ContainsLaws.{first_or_later}
use Rattle.sc_core_sites.specs.Sites.{named_numbers, IsConclusion}
use Rattle.sc_core_sites.proofs.NamedLaws.{AreThere, infers_there}
use Rattle.sc_core.specs.Parents.{HasNumber}

-- ---- each number that a site names is that of a usable clause

named_has : (usable : List Numbered) (ns : List ℕ) (ps : List Numbered) → AreNamed usable ns ps → (n : ℕ) → Contains ns n → HasNumber usable n
named_has usable [] ps h n there = absurd (in_none n there)
named_has usable (m ∷ ms) [] h n there = absurd h
named_has usable (m ∷ ms) (p ∷ ps) h n there = by (λ k. named_has usable ms ps h.1 n k) (first_or_later n m ms there)
  where
    by : (Contains ms n → HasNumber usable n) → (m ≡ n) ⊎ Contains ms n → HasNumber usable n
    by rest (inl e) = (p, h.0.1, h.0.0 ∙ e)
    by rest (inr k) = rest k

both_have : (usable : List Numbered) (m : ℕ) (ms : List ℕ) (p : Numbered) (ps : List Numbered) → AreNamed usable (m ∷ []) (p ∷ []) → AreNamed usable ms ps
    → (n : ℕ) → Contains (m ∷ ms) n → HasNumber usable n
both_have usable m ms p ps first rest n there = named_has usable (m ∷ ms) (p ∷ ps) (first.0, rest) n there

pub site_has : (given : Numbered) (usable : List Numbered) (site : Site) (i : Inference) → Infers given usable site i → (n : ℕ) → Contains (named_numbers site) n → HasNumber usable n
site_has given usable (Binary site) i h n there = (h.partner, h.listed, h.named ∙ in_one site.partner n there)
site_has given usable (Factor site) i h n there = absurd (in_none n there)
site_has given usable (Hyper site) i h n there = both_have usable site.nucleus (picked_numbers site) h.nucleus h.electrons h.nucleus_named h.electrons_named n there
site_has given usable (Ur site) i h n there = both_have usable site.nucleus site.units h.nucleus h.units h.nucleus_named h.units_named n there
site_has given usable (ParaFrom site) i h n there = (h.into, h.listed, h.para.into_named ∙ in_one site.into n there)
site_has given usable (ParaInto site) i h n there = (h.from, h.listed, h.para.from_named ∙ in_one site.from n there)

-- ---- the conclusion

-- what is concluded over the one list is concluded over the other
pub same_conclusion : (given : Numbered) (parents usable : List Numbered) (site : Site) (made : Option Made)
    → AreThere parents (named_numbers site) usable → AreThere usable (named_numbers site) parents → IsConclusion given parents site made → IsConclusion given usable site made
same_conclusion given parents usable site None among there h = λ i d infers. h i d (infers_there given usable parents site there i infers)
same_conclusion given parents usable site (Some m) among there h = (h.0, infers_there given parents usable site among h.0 h.1, h.2)
