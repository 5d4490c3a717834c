use Rattle.std.specs.List.{AllWithin}
use Rattle.sc_core_rules.specs.Rewriting.{Fits}
use Rattle.sc_demod.proofs.fit.first_fit.Given as goal

abbrev pub invariant-loop-place : goal.invariant-loop-place
invariant-loop-place l = AllWithin (λ d. ¬ Fits d l.s) l.demods 0 l.place
