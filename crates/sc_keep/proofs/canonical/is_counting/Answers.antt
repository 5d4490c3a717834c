use Rattle.std.proofs.Common.{◌∙◌, refl, arith}
use Rattle.sc_keep.proofs.CanonicalLaws.{counted}
use Rattle.sc_term.proofs.CanonicalForm.{counts}
use Rattle.sc_keep.proofs.canonical.is_counting.Goals as goal

pub returns-then-order-at : goal.returns-then-order-at
returns-then-order-at c = (λ e. cc, λ e. absurd (c.if-order-at.true (counted 0 c.args.order.now e c.loop-at.at c.loop-at-test.true ∙ omega arith)))

pub returns : goal.returns
returns c =
    let long = c.loop-at-test.false in
    (λ e. counts 0 c.args.order.now (λ k less. c.loop-at.invariant k (omega (arith, less, long)) ∙ omega arith), λ e. refl)
