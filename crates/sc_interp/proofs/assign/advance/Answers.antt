use Rattle.std.proofs.Common.{◌≡◌, ◌∙◌, ◌+◌, ◌<◌, length, get_or, arith}
use Rattle.std.proofs.lemmas.List.Elements.{All-set}
use Rattle.sc_interp.proofs.Assignments.{IsCarried, next, carried, with_digit, more_zeros}
use Rattle.sc_interp.proofs.assign.advance.Goals as goal

pub returns-then-value-size-clause-elements : goal.returns-then-value-size-clause-elements
returns-then-value-size-clause-elements c =
    let below : get_or c.loop-value.values c.loop-value.value-index 0 + 1 < c.args.size = omega (arith, c.if-value-size.true) in
    All-set (λ v. v < c.args.size) c.loop-value.values c.loop-value.value-index _ below c.loop-value.invariant.elements

pub returns-then-value-size-clause-next : goal.returns-then-value-size-clause-next
returns-then-value-size-clause-next c = λ _.
    next c.args.size c.loop-value.value-index c.args.values.now c.loop-value.values
    (record { is = c.loop-value.invariant.carried; within = c.loop-value-test.true }) c.loop-value.invariant.number

pub loop-value-preserved : goal.loop-value-preserved
loop-value-preserved c =
    let now : IsCarried c.loop-value.value-index c.args.values.now c.loop-value.values
    = record { is = c.loop-value.invariant.carried; within = c.loop-value-test.true } in
    let there : c.loop-value.value-index < length c.loop-value.values = omega (arith, c.loop-value.auto.values, c.loop-value-test.true) in
    let greatest : get_or c.loop-value.values c.loop-value.value-index 0 + 1 ≡ c.args.size =
    let below = c.loop-value.invariant.elements c.loop-value.value-index 0 there in omega (arith, below, c.if-value-size.false, c.requires.size) in
    let some : 0 < c.args.size = omega (arith, c.requires.size) in
    record {
      elements = All-set (λ v. v < c.args.size) c.loop-value.values c.loop-value.value-index 0 some c.loop-value.invariant.elements;
      carried = with_digit c.loop-value.value-index 0 c.args.values.now c.loop-value.values now ∙ more_zeros c.loop-value.value-index _;
      number = carried c.args.size c.loop-value.value-index c.args.values.now c.loop-value.values now c.loop-value.invariant.number greatest;
    }
