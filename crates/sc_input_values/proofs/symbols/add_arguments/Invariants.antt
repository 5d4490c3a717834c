use Rattle.std.proofs.Common.{◌≡◌, take}
use Rattle.sc_term.specs.Symbol.{same_symbol}
use Rattle.sc_input_values.specs.Once.{with_each}
use Rattle.sc_input_values.specs.Names.{argument_symbols}
use Rattle.sc_input_values.proofs.symbols.add_arguments.Given as goal

abbrev pub invariant-loop-occurrence : goal.invariant-loop-occurrence
invariant-loop-occurrence l = l.sig ≡ with_each same_symbol l.fn.sig (argument_symbols (take l.occurrence-index l.occurrences))
