use Rattle.std.proofs.Common.{◌∙◌, ◌<◌, ap, List, length, get_or, arith}
use Rattle.std.specs.Prelude.{nat_lt}
use Rattle.std.proofs.lemmas.Bool.Decides.{nat_tests}
use Rattle.sc_input_rules.specs.declared.written.Occurrence.{Occurrence}
use Rattle.sc_input_limits.proofs.Looks.{past_first}
use Rattle.sc_input_limits.proofs.demodulator.begins_with_variable.Goals as goal

pub loop-occurrence-preserved : goal.loop-occurrence-preserved
loop-occurrence-preserved c =
    let l = c.args.literal.now in
    let o = c.occurrence-item.result in
    let i = c.loop-occurrence.occurrence-index in
    let names = c.as_slice-occurrence-items.ensures in
    let lt : i < length l.arguments = omega (arith, ap length names, c.loop-occurrence-test.true) in
    past_first (λ o. nat_lt o.at l.predicate.at) l.arguments i o lt (c.occurrence-item.is ∙ ap (λ (xs : List Occurrence). get_or xs i o) names) (grind (arith, nat_tests)) ∙ c.loop-occurrence.invariant
