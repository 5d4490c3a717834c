use Rattle.std.proofs.Common.{take}
use Rattle.sc_core.specs.Marking.{AreMarked}
use Rattle.sc_core.proofs.selecting.mark_all.Given as goal

abbrev pub invariant-loop-p : goal.invariant-loop-p
invariant-loop-p l = AreMarked l.initial.marks l.marks (take l.p-index l.sos)
