use Rattle.std.proofs.Common.{◌≡◌, min, sum, map, take}
use Rattle.sc_term.specs.Clause as of
use Rattle.sc_term.proofs.instances.weight_up_to.Given as goal

abbrev pub invariant-loop-literal : goal.invariant-loop-literal
invariant-loop-literal l = l.total ≡ min (sum (map of.literal_weight (map (of.literal_instance l.terms) (take l.literal-index l.literal-items)))) l.most
