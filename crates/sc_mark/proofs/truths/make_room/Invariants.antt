use Rattle.std.proofs.Common.{◌+◌, ◌-◌, length}
use Rattle.sc_mark.specs.Marking.{AreSame}
use Rattle.sc_mark.proofs.truths.make_room.Given as goal

abbrev pub invariant-loop-stored : goal.invariant-loop-stored
invariant-loop-stored l = AreSame l.initial.stored l.stored

abbrev pub decreases-loop-stored : goal.decreases-loop-stored
decreases-loop-stored l = l.place + 1 - length l.stored
