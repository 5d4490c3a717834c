use Rattle.std.proofs.Common.{◌≡◌, take, Some}
use Rattle.sc_term.specs.declared.Numbered.{Numbered}
use Rattle.sc_term.specs.Numbering.{numbered}
use Rattle.sc_input_rules.specs.declared.settings.Home.TheVariants.{Demodulators}
use Rattle.sc_core_rules.specs.Order.{IsFilter}
use Rattle.sc_keep.proofs.start.demodulators.Given as goal

abbrev pub invariant-loop-p : goal.invariant-loop-p
invariant-loop-p l = IsFilter (λ (p : Numbered). numbered l.homes p.number ≡ Some Demodulators) (take l.p-index l.all) l.ds
