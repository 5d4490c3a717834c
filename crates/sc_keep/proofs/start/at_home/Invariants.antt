use Rattle.std.proofs.Common.{◌≡◌, take, Some}
use Rattle.sc_term.specs.declared.Numbered.{Numbered}
use Rattle.sc_term.specs.Numbering.{numbered}
use Rattle.sc_core_rules.specs.Order.{IsFilter}
use Rattle.sc_keep.proofs.start.at_home.Given as goal

abbrev pub invariant-loop-p : goal.invariant-loop-p
invariant-loop-p l = IsFilter (λ (p : Numbered). numbered l.homes p.number ≡ Some l.home) (take l.p-index l.all) l.ps
