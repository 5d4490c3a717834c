use Rattle.std.proofs.Common.{◌≡◌, take}
use Rattle.sc_input_rules.specs.Token.{same_text}
use Rattle.sc_input_values.specs.Once.{with_each}
use Rattle.sc_input_values.specs.Names.{names_of_variables}
use Rattle.sc_input_values.proofs.variables.note_variables.Given as goal

abbrev pub invariant-loop-occurrence : goal.invariant-loop-occurrence
invariant-loop-occurrence l = l.variables ≡ with_each same_text l.fn.variables (names_of_variables (take l.occurrence-index l.occurrences))
