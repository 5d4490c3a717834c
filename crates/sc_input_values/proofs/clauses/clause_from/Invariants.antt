use Rattle.std.proofs.Common.{◌≡◌, map, take}
use Rattle.sc_input_rules.specs.Numbering.{literal_of, number_in, variable_order}
use Rattle.sc_input_values.proofs.clauses.clause_from.Given as goal

abbrev pub invariant-loop-literal : goal.invariant-loop-literal
invariant-loop-literal l = l.literals ≡ map (literal_of (number_in (variable_order l.written)) l.sig) (take l.literal-index l.written)
