use Rattle.std.proofs.Common.{◌≡◌, ◌∙◌, sym, ◌++◌, [], ◌∷◌}
use Rattle.sc_unify.specs.Bindings.{bindings}
use Rattle.sc_unify.specs.Joint.{value_at, values}
use Rattle.sc_unify.proofs.JointLaws.{values-none, values-more}
use Rattle.sc_unify.proofs.joint.values.Goals as goal

pub loop-n-init : goal.loop-n-init
loop-n-init c = c.new-terms.ensures ∙ sym (values-none (value_at (bindings c.args.bound.now) c.args.order.now) c.args.first)

pub loop-n-preserved : goal.loop-n-preserved
loop-n-preserved c =
    c.in_ok-push.ensures.ok ∙ (λ i. c.loop-n.invariant i ++ c.in_ok-value.ensures i ∷ []) ∙ sym (values-more (value_at (bindings c.args.bound.now) c.args.order.now) c.args.first c.loop-n.n)
