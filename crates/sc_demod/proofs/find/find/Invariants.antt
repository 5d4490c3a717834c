use Rattle.std.specs.List.{AllWithin}
use Rattle.sc_term.specs.declared.Literal.{Literal}
use Rattle.sc_term.specs.Path.{IsSubtermAt}
use Rattle.sc_demod.specs.Finding.{FindsNone}
use Rattle.sc_demod.proofs.find.find.Given as goal

abbrev pub invariant-loop-i : goal.invariant-loop-i
invariant-loop-i l = AllWithin (λ (m : Literal). FindsNone l.demods (IsSubtermAt m.args)) l.literals 0 l.i
