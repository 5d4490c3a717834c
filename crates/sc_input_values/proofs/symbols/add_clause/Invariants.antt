use Rattle.std.proofs.Common.{◌≡◌, take}
use Rattle.sc_term.specs.Symbol.{same_symbol}
use Rattle.sc_input_values.specs.Once.{with_each}
use Rattle.sc_input_values.specs.Names.{clause_symbols}
use Rattle.sc_input_values.proofs.symbols.add_clause.Given as goal

abbrev pub invariant-loop-literal : goal.invariant-loop-literal
invariant-loop-literal l = l.sig ≡ with_each same_symbol l.fn.sig (clause_symbols (take l.literal-index l.clause))
