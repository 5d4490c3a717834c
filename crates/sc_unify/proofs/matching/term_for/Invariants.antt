use Rattle.std.proofs.Common.{◌≡◌, drop}
use Rattle.sc_unify.specs.Bindings.{lookup, bindings}
use Rattle.sc_unify.proofs.matching.term_for.Given as goal

abbrev pub invariant-loop-one : goal.invariant-loop-one
invariant-loop-one l = lookup (bindings (drop l.one-index l.bound)) l.variable ≡ lookup (bindings l.bound) l.variable
