use Rattle.std.proofs.Common.{◌≡◌, take}
use Rattle.sc_subsume.specs.Search.{literals}
use Rattle.sc_subsume.proofs.order.by_candidates.Given as goal

abbrev pub invariant-loop-literal : goal.invariant-loop-literal
invariant-loop-literal l = literals l.asked.items ≡ take l.literal-index l.c
