use Rattle.std.proofs.Common.{◌≡◌, ◌+◌, length}
use Rattle.sc_mark.specs.Changes.{AreChanges}
use Rattle.sc_mark.proofs.changes.changes.Given as goal

abbrev pub invariant-loop-at : goal.invariant-loop-at
invariant-loop-at l = record {
  long : length l.changes.items ≡ l.at + 1;
  changes : AreChanges l.old l.new l.changes.items;
}
