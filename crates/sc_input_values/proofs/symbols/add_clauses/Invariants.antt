use Rattle.std.proofs.Common.{◌≡◌, take, flat_map}
use Rattle.sc_term.specs.Symbol.{same_symbol}
use Rattle.sc_input_values.specs.Once.{with_each}
use Rattle.sc_input_values.specs.Names.{clause_symbols}
use Rattle.sc_input_values.proofs.symbols.add_clauses.Given as goal

abbrev pub invariant-loop-clause : goal.invariant-loop-clause
invariant-loop-clause l = l.sig ≡ with_each same_symbol l.fn.sig (flat_map clause_symbols (take l.clause-index l.clauses))
