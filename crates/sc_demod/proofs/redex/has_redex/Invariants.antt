use Rattle.std.proofs.Common.{[], ◌∷◌}
use Rattle.std.specs.List.{AllWithin}
use Rattle.sc_term.specs.declared.Literal.{Literal}
use Rattle.sc_term.specs.Path.{IsSubtermAt}
use Rattle.sc_demod.specs.Finding.{FindsSome}
use Rattle.sc_demod.proofs.redex.has_redex.Given as goal

abbrev pub invariant-loop-i : goal.invariant-loop-i
invariant-loop-i l = AllWithin (λ (m : Literal). ¬ FindsSome (l.d ∷ []) (IsSubtermAt m.args)) l.c.literals 0 l.i
