use Rattle.std.proofs.Common.{◌≡◌}
use Rattle.sc_unify.specs.Bindings.{bindings}
use Rattle.sc_unify.specs.Joint.{value_at, values}
use Rattle.sc_unify.proofs.joint.values.Given as goal

abbrev pub invariant-loop-n : goal.invariant-loop-n
invariant-loop-n l = l.terms ≡ values (value_at (bindings l.bound) l.order) l.first l.n
