use Rattle.std.proofs.Common.{◌≡◌, false, take, nat_eq}
use Rattle.std.specs.List.{list_any}
use Rattle.sc_keep.proofs.sweep.is_among.Given as goal

abbrev pub invariant-loop-m : goal.invariant-loop-m
invariant-loop-m l = list_any (nat_eq l.n) (take l.m-index l.numbers) ≡ false
