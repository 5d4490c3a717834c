use Rattle.std.proofs.Common.{◌≤◌}
use Rattle.sc_subsume.proofs.order.count_places.Given as goal

abbrev pub invariant-loop-m : goal.invariant-loop-m
invariant-loop-m l = l.count ≤ l.m-index
