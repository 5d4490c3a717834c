-- Sites as values of the program, and the clauses that a site names.
use Rattle.std.specs.Prelude.{ℕ, List, [], ◌∷◌, Option, MatchOption}
use Rattle.sc_term.specs.declared.Numbered.{Numbered}
use Rattle.sc_steps.specs.declared.derivations.derivation.Derived.{Derived}
use Rattle.sc_steps.specs.declared.derivations.made.Made.{Made}
use Rattle.sc_core_rules.specs.Hyperresolution.{picked_numbers}
use Rattle.sc_core_rules.specs.Inference.{Inference, Concludes, derived_of}
use Rattle.sc_core_rules.specs.Sites.{Site, Binary, Factor, Hyper, Ur, ParaFrom, ParaInto, Infers}
use Rattle.sc_core_sites.specs.declared.site.Site.{Site as Told}
use Rattle.sc_core_sites.specs.declared.site.Site.TheVariants as told

-- the site that the value tells
abbrev pub site_of : Told → Site
site_of (told.Binary s) = Binary s
site_of (told.Factor s) = Factor s
site_of (told.Hyper s) = Hyper s
site_of (told.Ur s) = Ur s
site_of (told.ParaFrom s) = ParaFrom s
site_of (told.ParaInto s) = ParaInto s

-- the numbers of the usable clauses that the site names, in the order of the parents
abbrev pub named_numbers : Site → List ℕ
named_numbers (Binary s) = s.partner ∷ []
named_numbers (Factor s) = []
named_numbers (Hyper s) = s.nucleus ∷ picked_numbers s
named_numbers (Ur s) = s.nucleus ∷ s.units
named_numbers (ParaFrom s) = s.into ∷ []
named_numbers (ParaInto s) = s.from ∷ []

-- what is made is the conclusion of the given clause with these parents at the site, or else there is none
abbrev pub IsConclusion : Numbered → List Numbered → Site → Option Made → Type 0
IsConclusion given parents site made =
    MatchOption made
    ((i : Inference) (d : Derived) → Infers given parents site i → ¬ Concludes i d)
    (λ m. (i : Inference) × Infers given parents site i × Concludes i (derived_of m))
