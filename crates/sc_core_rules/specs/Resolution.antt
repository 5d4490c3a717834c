-- Binary resolution and factoring: their sites and inferences.
use Rattle.std.specs.Prelude.{◌≡◌, ◌<◌, ℕ, List, [], ◌∷◌, Contains}
use Rattle.sc_term.specs.declared.Numbered.{Numbered}
use Rattle.sc_core_rules.specs.declared.site.BinarySite.{BinarySite}
use Rattle.sc_core_rules.specs.declared.site.FactorSite.{FactorSite}
use Rattle.sc_term.specs.JointInstance.{apart}
use Rattle.sc_core_rules.specs.Inference.{Inference, Resolving, Merging, parent_clauses}
use Rattle.sc_term.specs.Substitution.{Unify}
use Rattle.sc_core_rules.specs.Pairing.{ArePairs, HaveOppositeSigns, HaveSameSigns, places_in}
use Rattle.sc_core_rules.specs.Order.{AreFirst}

-- a literal of the given clause and one of a usable partner have opposite signs and unify; they are resolved
pub record IsBinary (given : Numbered) (usable : List Numbered) (site : BinarySite) (i : Inference) : Type 0 where
  pub partner : Numbered
  pub listed : Contains usable partner
  pub named : partner.number ≡ site.partner
  pub parents : i.parents ≡ given ∷ partner ∷ []
  pub pairs : ArePairs (apart (parent_clauses i)) (places_in 1 (site.given_lit ∷ [])) (places_in 2 (site.partner_lit ∷ [])) i.pairs
  pub signs : HaveOppositeSigns i.pairs
  pub unify : Unify i.pairs
  pub ending : i.ending ≡ Resolving (site.given_lit ∷ []) (site.partner_lit ∷ [])

-- the numbers of a site: partner, literal of the given clause, literal of the partner
abbrev pub binary_numbers : BinarySite → List ℕ
binary_numbers s = s.partner ∷ s.given_lit ∷ s.partner_lit ∷ []

-- the first sites of binary resolution, at most as many as the limit
abbrev pub AreBinarySites : Numbered → List Numbered → ℕ → List BinarySite → Type 0
AreBinarySites given usable limit sites = AreFirst binary_numbers (λ site. (i : Inference) × IsBinary given usable site i) limit sites

-- two literals of the given clause have the same sign and unify; the second is merged
pub record IsFactor (given : Numbered) (site : FactorSite) (i : Inference) : Type 0 where
  pub order : site.first < site.second
  pub parents : i.parents ≡ given ∷ []
  pub pairs : ArePairs (apart (parent_clauses i)) (places_in 1 (site.first ∷ [])) (places_in 1 (site.second ∷ [])) i.pairs
  pub signs : HaveSameSigns i.pairs
  pub unify : Unify i.pairs
  pub ending : i.ending ≡ Merging site.second

-- the numbers of a site: both literals
abbrev pub factor_numbers : FactorSite → List ℕ
factor_numbers s = s.first ∷ s.second ∷ []

-- the first sites of factoring
abbrev pub AreFactorSites : Numbered → ℕ → List FactorSite → Type 0
AreFactorSites given limit sites = AreFirst factor_numbers (λ site. (i : Inference) × IsFactor given site i) limit sites
