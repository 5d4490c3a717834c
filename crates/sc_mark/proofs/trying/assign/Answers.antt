use Rattle.std.proofs.Common.{◌^◌, ◌<◌, ◌≤◌, subst, length, arith}
use Rattle.std.proofs.lemmas.List.{take_all}
use Rattle.sc_interp.specs.Assignments.{AreElements}
use Rattle.sc_mark.proofs.AssigningLaws.{one_assigned, all_assigned, none_assigned}
use Rattle.sc_mark.proofs.trying.assign.Goals as goal

pub loop-value-init : goal.loop-value-init
loop-value-init c = none_assigned c.args.size c.args.values.now c.args.number

pub loop-value-preserved : goal.loop-value-preserved
loop-value-preserved c =
    let there : c.loop-value.value-index < length c.loop-value.values = omega (arith, c.loop-value.auto.values, c.loop-value-test.true) in
    one_assigned c.args.size c.from-base.result c.loop-value.values c.loop-value.value-index c.loop-value.rest c.args.number c.from-base.ensures c.requires there c.loop-value.invariant

pub returns-clause-elements : goal.returns-clause-elements
returns-clause-elements c =
    let ended : length c.loop-value.values ≤ c.loop-value.value-index = omega (arith, c.loop-value.auto.values, c.loop-value-test.false) in
    subst (AreElements c.args.size) (take_all c.loop-value.value-index c.loop-value.values ended) c.loop-value.invariant.elements

pub returns-clause-numbered : goal.returns-clause-numbered
returns-clause-numbered c less =
    let ended : length c.loop-value.values ≤ c.loop-value.value-index = omega (arith, c.loop-value.auto.values, c.loop-value-test.false) in
    let below : c.args.number < c.args.size ^ length c.loop-value.values = subst (λ n. c.args.number < c.args.size ^ n) (omega (arith, c.loop-value.auto.values)) less in
    all_assigned c.args.size c.loop-value.values c.loop-value.value-index c.loop-value.rest c.args.number ended c.loop-value.invariant below
