use Rattle.std.proofs.Common.{◌≡◌, false, take}
use Rattle.std.specs.List.{list_any}
use Rattle.sc_resolve.specs.Literals.{may_resolve}
use Rattle.sc_resolve.proofs.literals.may_resolve_any.Given as goal

abbrev pub invariant-loop-l : goal.invariant-loop-l
invariant-loop-l l = list_any (λ a. list_any (may_resolve a) l.others) (take l.l-index l.literals) ≡ false
