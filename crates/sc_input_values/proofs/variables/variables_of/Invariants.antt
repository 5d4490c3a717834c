use Rattle.std.proofs.Common.{◌≡◌, [], take}
use Rattle.sc_input_rules.specs.Token.{same_text}
use Rattle.sc_input_values.specs.Once.{with_each}
use Rattle.sc_input_values.proofs.NameLaws.{names_in}
use Rattle.sc_input_values.proofs.variables.variables_of.Given as goal

abbrev pub invariant-loop-literal : goal.invariant-loop-literal
invariant-loop-literal l = l.variables ≡ with_each same_text [] (names_in (take l.literal-index l.written))
