use Rattle.std.proofs.Common.{◌≡◌, take}
use Rattle.sc_shelf.specs.Entries.{versions}
use Rattle.sc_shelf.proofs.compare.begins.Given as goal

abbrev pub invariant-loop-i : goal.invariant-loop-i
invariant-loop-i l = versions (take l.i l.entries) ≡ take l.i l.seen
