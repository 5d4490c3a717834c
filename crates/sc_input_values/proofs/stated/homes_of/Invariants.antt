use Rattle.std.proofs.Common.{◌≡◌, take, flat_map}
use Rattle.sc_input_values.specs.Listed.{homes_in}
use Rattle.sc_input_values.proofs.stated.homes_of.Given as goal

abbrev pub invariant-loop-item : goal.invariant-loop-item
invariant-loop-item l = l.homes ≡ flat_map homes_in (take l.item-index l.items)
