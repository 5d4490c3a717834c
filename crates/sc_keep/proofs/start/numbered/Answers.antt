use Rattle.std.proofs.Common.{◌∙◌, arith}
use Rattle.sc_keep.proofs.StartLaws.{one_numbered}
use Rattle.sc_keep.proofs.start.numbered.Goals as goal

pub loop-at-preserved : goal.loop-at-preserved
loop-at-preserved c =
    let few = c.requires.few in
    let less = c.loop-at-test.true in
    one_numbered c.args.inputs.now c.loop-at.at _ c.in_ok-copy.field-0 c.index-inputs-at.result c.loop-at.all c.push.new.self less (c.in_ok-copy.ensures ∙ c.index-inputs-at.is) (omega (arith, few, less))
    c.in_ok-push.ensures.ok c.loop-at.invariant
