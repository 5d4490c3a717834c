use Rattle.std.proofs.Common.{◌≡◌, Contains, true}
use Rattle.std.specs.List.{AllWithin}
use Rattle.sc_term.specs.declared.Literal.{Literal}
use Rattle.sc_term.specs.declared.Term.{Term}
use Rattle.sc_term.specs.Proof.{AreOpposite}
use Rattle.sc_term.specs.Refuted.{equation}
use Rattle.sc_subsume.proofs.tautology.is_tautology.Given as goal

abbrev pub invariant-loop-l : goal.invariant-loop-l
invariant-loop-l l = record {
  reflexive : AllWithin (λ one. ¬ ((t : Term) × (one ≡ equation true t t))) l.literals 0 l.l-index;
  opposite : AllWithin (λ one. ¬ ((m : Literal) × Contains l.literals m × AreOpposite one m)) l.literals 0 l.l-index;
}
