use Rattle.std.proofs.Common.{◌≡◌, false, take}
use Rattle.std.specs.List.{list_any}
use Rattle.sc_resolve.specs.Literals.{may_resolve}
use Rattle.sc_resolve.proofs.literals.may_resolve_with.Given as goal

abbrev pub invariant-loop-m : goal.invariant-loop-m
invariant-loop-m l = list_any (may_resolve l.l) (take l.m-index l.others) ≡ false
