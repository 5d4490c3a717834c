use Rattle.std.specs.List.{AllWithin}
use Rattle.sc_term.specs.Proof.{AreOpposite}
use Rattle.sc_subsume.proofs.tautology.has_opposite.Given as goal

abbrev pub invariant-loop-m : goal.invariant-loop-m
invariant-loop-m l = AllWithin (λ m. ¬ AreOpposite l.l m) l.all 0 l.m-index
