use Rattle.std.proofs.Common.{◌≡◌, take}
use Rattle.sc_input_rules.specs.Problem.{Stated}
use Rattle.sc_keep.specs.Start.{IsLeastEarlier}
use Rattle.sc_keep.proofs.start.least_earlier.Given as goal

abbrev pub invariant-loop-m : goal.invariant-loop-m
invariant-loop-m l = (problem : Stated) → problem.homes ≡ l.homes → IsLeastEarlier problem l.n (take l.m-index l.all) l.best
