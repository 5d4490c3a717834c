use Rattle.std.proofs.Common.{◌≡◌, length, take, map}
use Rattle.sc_term.specs.Clause as of
use Rattle.sc_steps.proofs.checking.instance.is_instance.Given as goal

abbrev pub invariant-loop-i : goal.invariant-loop-i
invariant-loop-i l = (length l.patterns ≡ length l.all) × (take l.i l.all ≡ map (of.literal_instance l.terms) (take l.i l.patterns))
