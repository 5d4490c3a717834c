use Rattle.std.proofs.Common.{◌≡◌, ◌<◌, ◌≤◌, length}
use Rattle.sc_worker.specs.Underway.{IsUnderway}
use Rattle.sc_worker.proofs.working.work_all.Given as goal

abbrev pub invariant-loop-alloc : goal.invariant-loop-alloc
invariant-loop-alloc g l = IsUnderway l.initial.chooser l.chooser l.press
    × (g.H.Halt.requests l.initial.halt ≤ g.H.Halt.requests l.halt)
    × (0 < l.worked → length l.chooser.left < length l.initial.chooser.left)
    × (l.press.symbols ≡ l.initial.press.symbols)

abbrev pub decreases-loop-alloc : goal.decreases-loop-alloc
decreases-loop-alloc g l = length l.chooser.left
