use Rattle.std.proofs.Common.{take}
use Rattle.sc_input_rules.specs.Problem.{Stated}
use Rattle.sc_keep.specs.Start.{HasInput, IsFirstEnding}
use Rattle.sc_keep.proofs.start.first_ending.Given as goal

abbrev pub invariant-loop-n : goal.invariant-loop-n
invariant-loop-n l = (problem : Stated) → HasInput l.homes l.all problem → IsFirstEnding problem (take l.n-index l.all) l.best
