use Rattle.std.proofs.Common.{take}
use Rattle.sc_mark.proofs.AssigningLaws.{IsBegun}
use Rattle.sc_mark.proofs.trying.assign.Given as goal

abbrev pub invariant-loop-value : goal.invariant-loop-value
invariant-loop-value l = IsBegun l.size (take l.value-index l.values) l.rest l.number
