use Rattle.std.specs.List.{AllWithin}
use Rattle.sc_demod.specs.Finding.{IsWithin, FindsSome}
use Rattle.sc_demod.proofs.redex.+has_redex.Given as goal

abbrev pub invariant-has_redex_in_terms-loop-i : goal.invariant-has_redex_in_terms-loop-i
invariant-has_redex_in_terms-loop-i l = AllWithin (λ t. ¬ FindsSome l.demods (IsWithin t)) l.args 0 l.i
