use Rattle.std.proofs.Common.{◌≡◌, false, take}
use Rattle.std.specs.List.{list_any}
use Rattle.sc_hyper.specs.Choosing.{has}
use Rattle.sc_hyper.proofs.choice.has_number.Given as goal

abbrev pub invariant-loop-pick : goal.invariant-loop-pick
invariant-loop-pick l = list_any (has l.n) (take l.pick-index l.picks) ≡ false
