use Rattle.std.proofs.Common.{◌≡◌, take}
use Rattle.sc_unify.specs.Bindings.{bindings}
use Rattle.sc_unify.proofs.substitution.borrow_bindings.Given as goal

abbrev pub invariant-loop-entry : goal.invariant-loop-entry
invariant-loop-entry l = bindings l.bound.items ≡ take l.entry-index l.entries
