use Rattle.std.proofs.Common.{refl, rules}
use Rattle.sc_input_values.proofs.SymbolNumbers.{number_found, number_missing, number_over}
use Rattle.sc_input_values.proofs.symbols.symbol_number.Goals as goal

pub returns-then-occurrence-gt8 : goal.returns-then-occurrence-gt8
returns-then-occurrence-gt8 c = number_over _ _ _ c.keeps.ensures c.if-occurrence-gt8.true refl

pub returns-in-Some : goal.returns-in-Some
returns-in-Some c = number_found _ _ _ _ (search rules) c.keeps.ensures c.in-Some.ensures.found

pub returns-in-None : goal.returns-in-None
returns-in-None c = number_missing _ _ _ _ (search rules) c.in-None.ensures.none refl
