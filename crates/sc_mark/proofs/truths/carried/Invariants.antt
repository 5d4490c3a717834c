use Rattle.std.proofs.Common.{◌≡◌, take, length}
use Rattle.sc_mark.specs.Marking.{AreKnown}
use Rattle.sc_mark.proofs.truths.carried.Given as goal

abbrev pub invariant-loop-p : goal.invariant-loop-p
invariant-loop-p l = record { known : AreKnown l.new (take l.p-index l.clauses) l.carried; register : length l.register.items ≡ 10000 }
