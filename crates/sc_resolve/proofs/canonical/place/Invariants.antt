use Rattle.std.proofs.Common.{◌≡◌, ◌+◌, nat_eq, drop}
use Rattle.std.specs.List.{position_or_len}
use Rattle.sc_resolve.proofs.canonical.place.Given as goal

abbrev pub invariant-loop-at : goal.invariant-loop-at
invariant-loop-at l = l.at + position_or_len (nat_eq l.n) (drop l.at l.order) ≡ position_or_len (nat_eq l.n) l.order
