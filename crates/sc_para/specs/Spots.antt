-- Sites by what they have beside their path.
use Rattle.std.specs.Prelude.{ℕ, List, ◌∷◌}
use Rattle.sc_core_rules.specs.declared.site.ParaSite.{ParaSite}
use Rattle.sc_core_rules.specs.Paramodulation.{side_number}
use Rattle.sc_para.specs.declared.spot.Spot.{Spot}

-- the site with this path
abbrev pub site_at : Spot → List ℕ → ParaSite
site_at spot path = record { from = spot.from; from_lit = spot.from_lit; side = spot.side; into = spot.into; into_lit = spot.into_lit; path = path }

-- the numbers of a site of two clauses: equation, side, literal, path
abbrev pub pair_numbers : ParaSite → List ℕ
pair_numbers s = s.from_lit ∷ side_number s.side ∷ s.into_lit ∷ s.path
