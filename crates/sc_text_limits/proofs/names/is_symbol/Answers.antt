use Rattle.std.proofs.Common.{◌∙◌, sym, refl}
use Rattle.sc_text_limits.proofs.LookUps.{looked_up, over}
use Rattle.sc_text_limits.proofs.names.is_symbol.Goals as goal

pub returns-then-name-gt-MAX_ARITY : goal.returns-then-name-gt-MAX_ARITY
returns-then-name-gt-MAX_ARITY c = sym (over _ _ c.keeps.ensures c.if-name-gt-MAX_ARITY.true)

pub returns : goal.returns
returns c = c.is_some.ensures ∙ looked_up _ _ _ c.number_of.result refl c.number_of.ensures.found c.number_of.ensures.none
