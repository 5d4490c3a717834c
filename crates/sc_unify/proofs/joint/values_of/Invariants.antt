use Rattle.std.proofs.Common.{◌≡◌, ◌<◌, ◌≤◌, ◌^◌, ◌++◌, drop}
use Rattle.sc_unify.specs.Bindings.{bindings}
use Rattle.sc_unify.specs.Joint.{value_at, values_above}
use Rattle.sc_unify.proofs.joint.values_of.Given as goal

abbrev pub invariant-loop-c : goal.invariant-loop-c
invariant-loop-c l =
    let s = value_at (bindings l.bound) l.order in
    (l.told ++ values_above s l.low (drop l.c-index l.clauses) ≡ values_above s 0 l.clauses) × (l.low < 2 ^ 31)
