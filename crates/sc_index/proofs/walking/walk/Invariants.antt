use Rattle.std.proofs.Common.{◌-◌, ◌^◌}
use Rattle.sc_index.specs.Walking.{IsUnderway}
use Rattle.sc_index.proofs.walking.walk.Given as goal

abbrev pub invariant-loop-next : goal.invariant-loop-next
invariant-loop-next l = IsUnderway l.sides.stored l.sides.asked l.nodes l.query l.tasks l.next l.found.items

abbrev pub decreases-loop-next : goal.decreases-loop-next
decreases-loop-next l = 2 ^ 64 - l.next
