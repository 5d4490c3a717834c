use Rattle.std.proofs.Common.{◌≡◌, drop}
use Rattle.sc_unify.specs.Bindings.{lookup}
use Rattle.sc_subsume.specs.Search.{bindings}
use Rattle.sc_subsume.proofs.bound.find.Given as goal

abbrev pub invariant-loop-one : goal.invariant-loop-one
invariant-loop-one l = lookup (bindings (drop l.one-index l.bound)) l.variable ≡ lookup (bindings l.bound) l.variable
