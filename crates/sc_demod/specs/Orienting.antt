-- An equation with its sides exchanged.
use Rattle.std.specs.Prelude.{◌<◌}
use Rattle.sc_term.specs.declared.Term.{Term}
use Rattle.sc_term.specs.declared.Clause.{Clause}
use Rattle.sc_term.specs.Term.{term_weight}
use Rattle.sc_core_rules.specs.Rewriting.{IsEquation}

-- the one is an equation whose right side weighs more, and the other the same with the sides exchanged
pub record IsTurned (c d : Clause) : Type 0 where
  pub left : Term
  pub right : Term
  pub equates : IsEquation c left right
  pub heavier : term_weight left < term_weight right
  pub exchanged : IsEquation d right left
