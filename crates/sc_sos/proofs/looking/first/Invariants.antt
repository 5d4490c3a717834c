use Rattle.std.proofs.Common.{take}
use Rattle.sc_sos.specs.Waiting.{IsAny}
use Rattle.sc_sos.specs.LookUp.{numbers_by, IsFirst}
use Rattle.sc_sos.proofs.looking.first.Given as goal

abbrev pub invariant-loop-w : goal.invariant-loop-w
invariant-loop-w l = IsFirst (numbers_by l.order) IsAny (take l.w-index l.clauses) l.best
