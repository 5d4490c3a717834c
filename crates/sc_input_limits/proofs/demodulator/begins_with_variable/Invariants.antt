use Rattle.std.proofs.Common.{◌≡◌, drop}
use Rattle.std.specs.Prelude.{filter, nat_lt}
use Rattle.sc_input_rules.specs.Demodulator as spec
use Rattle.sc_input_limits.proofs.demodulator.begins_with_variable.Given as goal

-- none of the names so far stands before the equality
abbrev pub invariant-loop-occurrence : goal.invariant-loop-occurrence
invariant-loop-occurrence l = spec.is_one_variable (filter (λ o. nat_lt o.at l.literal.predicate.at) (drop l.occurrence-index l.literal.arguments)) ≡ spec.is_one_variable (spec.left_side l.literal)
