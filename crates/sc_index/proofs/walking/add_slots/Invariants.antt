use Rattle.std.proofs.Common.{◌≡◌, ◌++◌, take}
use Rattle.sc_index.proofs.walking.add_slots.Given as goal

abbrev pub invariant-loop-slot : goal.invariant-loop-slot
invariant-loop-slot l = l.found.items ≡ l.initial.found.items ++ take l.slot-index l.slots
