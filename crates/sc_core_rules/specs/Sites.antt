-- All sites of a turn, in the order of the rules.
use Rattle.std.specs.Prelude.{◌≡◌, ℕ, List, ◌∷◌, true}
use Rattle.sc_term.specs.declared.Numbered.{Numbered}
use Rattle.sc_input_rules.specs.declared.settings.Flags.{Flags}
use Rattle.sc_core_rules.specs.declared.site.BinarySite.{BinarySite}
use Rattle.sc_core_rules.specs.declared.site.FactorSite.{FactorSite}
use Rattle.sc_core_rules.specs.declared.site.HyperSite.{HyperSite}
use Rattle.sc_core_rules.specs.declared.site.UrSite.{UrSite}
use Rattle.sc_core_rules.specs.declared.site.ParaSite.{ParaSite}
use Rattle.sc_core_rules.specs.Inference.{Inference}
use Rattle.sc_core_rules.specs.Resolution.{IsBinary, IsFactor, binary_numbers, factor_numbers}
use Rattle.sc_core_rules.specs.Hyperresolution.{IsHyper, IsUr, hyper_numbers, ur_numbers}
use Rattle.sc_core_rules.specs.Paramodulation.{IsParaFrom, IsParaInto, para_from_numbers, para_into_numbers}
use Rattle.sc_core_rules.specs.Order.{AreFirst}

-- a site of one of the rules, in the order of the rules
pub data Site : Type 0 where
  Binary : BinarySite → Site
  Factor : FactorSite → Site
  Hyper : HyperSite → Site
  Ur : UrSite → Site
  ParaFrom : ParaSite → Site
  ParaInto : ParaSite → Site

-- the inference at the site
abbrev pub Infers : Numbered → List Numbered → Site → Inference → Type 0
Infers given usable (Binary site) i = IsBinary given usable site i
Infers given usable (Factor site) i = IsFactor given site i
Infers given usable (Hyper site) i = IsHyper given usable site i
Infers given usable (Ur site) i = IsUr given usable site i
Infers given usable (ParaFrom site) i = IsParaFrom given usable site i
Infers given usable (ParaInto site) i = IsParaInto given usable site i

-- the flag of the rule is set
abbrev pub IsSet : Flags → Site → Type 0
IsSet flags (Binary site) = flags.binary_res ≡ true
IsSet flags (Factor site) = flags.factor ≡ true
IsSet flags (Hyper site) = flags.hyper_res ≡ true
IsSet flags (Ur site) = flags.ur_res ≡ true
IsSet flags (ParaFrom site) = flags.para_from ≡ true
IsSet flags (ParaInto site) = flags.para_into ≡ true

-- the rule's place in the order of rules, and then the numbers of the site
abbrev pub site_numbers : Site → List ℕ
site_numbers (Binary site) = 1 ∷ binary_numbers site
site_numbers (Factor site) = 2 ∷ factor_numbers site
site_numbers (Hyper site) = 3 ∷ hyper_numbers site
site_numbers (Ur site) = 4 ∷ ur_numbers site
site_numbers (ParaFrom site) = 5 ∷ para_from_numbers site
site_numbers (ParaInto site) = 6 ∷ para_into_numbers site

-- the flag of the rule is set, and the site has an inference
abbrev pub IsSite : Flags → Numbered → List Numbered → Site → Type 0
IsSite flags given usable site = IsSet flags site × ((i : Inference) × Infers given usable site i)

-- the first sites of all rules, at most as many as the limit
abbrev pub AreSites : Flags → Numbered → List Numbered → ℕ → List Site → Type 0
AreSites flags given usable limit sites = AreFirst site_numbers (IsSite flags given usable) limit sites

-- the sites are one list
abbrev pub SitesAreOne : Type 0
SitesAreOne = (flags : Flags) (given : Numbered) (usable : List Numbered) (limit : ℕ) (sites others : List Site)
    → AreSites flags given usable limit sites → AreSites flags given usable limit others → sites ≡ others
