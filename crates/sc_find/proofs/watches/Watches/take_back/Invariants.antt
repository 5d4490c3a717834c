use Rattle.std.proofs.Common.{length}
use Rattle.sc_find.specs.Watching.{IsTakenBack}
use Rattle.sc_find.proofs.watches.Watches.take_back.Given as goal

abbrev pub invariant-loop-self : goal.invariant-loop-self
invariant-loop-self l = IsTakenBack l.depth l.fn.self l.self

abbrev pub decreases-loop-self : goal.decreases-loop-self
decreases-loop-self l = length l.self.watches
