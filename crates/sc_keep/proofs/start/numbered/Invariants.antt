use Rattle.std.proofs.Common.{◌≡◌, take}
use Rattle.sc_core_rules.specs.Start.{numbered_from}
use Rattle.sc_keep.proofs.start.numbered.Given as goal

abbrev pub invariant-loop-at : goal.invariant-loop-at
invariant-loop-at l = l.all ≡ numbered_from 1 (take l.at l.inputs)
