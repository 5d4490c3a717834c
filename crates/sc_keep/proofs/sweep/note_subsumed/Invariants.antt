use Rattle.std.proofs.Common.{◌≡◌, ◌++◌, List, take}
use Rattle.sc_term.specs.declared.Numbered.{Numbered}
use Rattle.sc_core_rules.specs.Order.{IsFilter}
use Rattle.sc_keep.specs.Sweep.{IsOtherSubsumed, numbers}
use Rattle.sc_keep.proofs.sweep.note_subsumed.Given as goal

abbrev pub invariant-loop-p : goal.invariant-loop-p
invariant-loop-p l = (picked : List Numbered) × IsFilter (IsOtherSubsumed l.n) (take l.p-index l.ps) picked × (l.gone.items ≡ l.initial.gone.items ++ numbers picked)
