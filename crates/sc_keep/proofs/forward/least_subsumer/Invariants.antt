use Rattle.std.proofs.Common.{◌++◌, List, take}
use Rattle.sc_term.specs.declared.Numbered.{Numbered}
use Rattle.sc_term.specs.Subsumption.{Subsumes}
use Rattle.sc_keep.specs.Least.{IsLeastNumber}
use Rattle.sc_keep.proofs.forward.least_subsumer.Given as goal

abbrev pub invariant-loop-p : goal.invariant-loop-p
invariant-loop-p l = (front : List Numbered) → IsLeastNumber (λ p. Subsumes p.clause l.c) front l.fn.best
    → IsLeastNumber (λ p. Subsumes p.clause l.c) (front ++ take l.p-index l.ps) l.best
