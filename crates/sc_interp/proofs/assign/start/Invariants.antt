use Rattle.std.proofs.Common.{◌≡◌, take, replicate}
use Rattle.sc_interp.proofs.assign.start.Given as goal

abbrev pub invariant-loop-value : goal.invariant-loop-value
invariant-loop-value l = take l.value-index l.values ≡ replicate l.value-index 0
