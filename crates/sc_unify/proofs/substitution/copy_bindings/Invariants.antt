use Rattle.std.proofs.Common.{◌≡◌, take}
use Rattle.sc_unify.specs.Bindings.{bindings}
use Rattle.sc_unify.proofs.substitution.copy_bindings.Given as goal

abbrev pub invariant-loop-one : goal.invariant-loop-one
invariant-loop-one l = l.entries ≡ bindings (take l.one-index l.bound)
