use Rattle.std.proofs.Common.{take}
use Rattle.sc_sos.specs.Waiting.{weight_of, IsFalseIn}
use Rattle.sc_sos.specs.LookUp.{IsFirst}
use Rattle.sc_sos.proofs.looking.first_false.Given as goal

abbrev pub invariant-loop-w : goal.invariant-loop-w
invariant-loop-w l = IsFirst weight_of (IsFalseIn l.marks) (take l.w-index l.clauses) l.best
