use Rattle.std.proofs.Common.{◌≡◌, length, take, map}
use Rattle.sc_term.specs.Term as spec
use Rattle.sc_steps.proofs.checking.instance.+instance.Given as goal

abbrev pub invariant-are_instances-loop-i : goal.invariant-are_instances-loop-i
invariant-are_instances-loop-i l = (length l.patterns ≡ length l.all) × (take l.i l.all ≡ map (spec.term_instance l.terms) (take l.i l.patterns))
