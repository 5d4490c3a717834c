use Rattle.std.proofs.Common.{◌≡◌}
use Rattle.sc_unify.specs.Bindings.{bindings}
use Rattle.sc_unify.specs.Matching.{filled}
use Rattle.sc_unify.proofs.matching.fill.Given as goal

abbrev pub invariant-loop-n : goal.invariant-loop-n
invariant-loop-n l = l.terms ≡ filled (bindings l.bound) l.n
