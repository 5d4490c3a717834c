use Rattle.std.proofs.Common.{◌≡◌, ◌++◌, map, take}
use Rattle.sc_input_rules.specs.Numbering.{clause_of}
use Rattle.sc_input_values.proofs.clauses.push_clauses.Given as goal

abbrev pub invariant-loop-clause : goal.invariant-loop-clause
invariant-loop-clause l = l.clauses ≡ l.fn.clauses ++ map (clause_of l.sig) (take l.clause-index l.written)
