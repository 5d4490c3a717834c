use Rattle.std.proofs.Common.{◌≡◌, take, map, flat_map}
use Rattle.sc_input_rules.specs.Numbering.{clause_of}
use Rattle.sc_input_values.specs.Listed.{clauses_in}
use Rattle.sc_input_values.proofs.stated.inputs_of.Given as goal

abbrev pub invariant-loop-item : goal.invariant-loop-item
invariant-loop-item l = l.inputs ≡ map (clause_of l.sig) (flat_map clauses_in (take l.item-index l.items))
