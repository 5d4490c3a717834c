use Rattle.std.proofs.Common.{length}
use Rattle.sc_find.specs.Watching.{IsGrown}
use Rattle.sc_find.proofs.WatchLaws.{IsWaking}
use Rattle.sc_find.proofs.waking.wake.Given as goal

abbrev pub invariant-loop-at : goal.invariant-loop-at
invariant-loop-at l = record {
  grown : IsGrown (length l.instances) l.fn.watches l.watches;
  waking : IsWaking l.clauses l.instances l.given l.cell l.fn.watches.watches l.watches.watches l.at;
}

abbrev pub decreases-loop-at : goal.decreases-loop-at
decreases-loop-at l = l.at
