use Rattle.std.proofs.Common.{◌≡◌, ◌&&◌, false, take}
use Rattle.std.specs.Prelude.{nat_lt}
use Rattle.std.specs.List.{list_any}
use Rattle.sc_input_rules.specs.Numbering.{is_variable, same_name}
use Rattle.sc_input_limits.proofs.demodulator.holds_variable.Given as goal

-- none so far
abbrev pub invariant-loop-occurrence : goal.invariant-loop-occurrence
invariant-loop-occurrence l = list_any (λ o. nat_lt o.at l.end && (is_variable o && same_name l.variable o)) (take l.occurrence-index l.arguments) ≡ false
