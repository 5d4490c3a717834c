-- When an equation of these sides becomes a demodulator.
use Rattle.std.specs.Prelude.{◌<◌, ℕ}
use Rattle.sc_term.specs.declared.Term.{Term}
use Rattle.sc_term.specs.Term.{term_weight}
use Rattle.sc_core_rules.specs.Paramodulation.{IsCompound}
use Rattle.sc_demod.specs.Counting.{OccursNoMore}

-- the left side is no variable and weighs more, and no variable occurs more often on the right
pub record AreDecreasing (left right : Term) : Type 0 where
  pub compound : IsCompound left
  pub lighter : term_weight right < term_weight left
  pub fewer : (v : ℕ) → OccursNoMore right left v
