use Rattle.std.proofs.Common.{◌≡◌, List, take}
use Rattle.sc_term.specs.declared.Numbered.{Numbered}
use Rattle.sc_core_rules.specs.Hyperresolution.{AreNamed}
use Rattle.sc_hyper.proofs.named.named.Given as goal

abbrev pub invariant-loop-n : goal.invariant-loop-n
invariant-loop-n l = (ps : List Numbered) → AreNamed l.usable l.numbers ps → l.found ≡ take l.n-index ps
