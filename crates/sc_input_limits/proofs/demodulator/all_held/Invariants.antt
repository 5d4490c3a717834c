use Rattle.std.proofs.Common.{◌≡◌, ◌&&◌, ◌||◌, not, true, take}
use Rattle.std.specs.Prelude.{nat_lt}
use Rattle.std.specs.List.{list_any, list_all}
use Rattle.sc_input_rules.specs.Numbering.{is_variable, same_name}
use Rattle.sc_input_limits.proofs.demodulator.all_held.Given as goal

-- each so far
abbrev pub invariant-loop-occurrence : goal.invariant-loop-occurrence
invariant-loop-occurrence l =
    list_all (λ o. not (nat_lt l.equality o.at) || (not (is_variable o) || list_any (λ p. nat_lt p.at l.equality && (is_variable p && same_name o p)) l.arguments)) (take l.occurrence-index l.arguments) ≡ true
