use Rattle.std.proofs.Common.{arith, refl}
use Rattle.sc_resolve.proofs.CanonicalLaws.{counting_is, counting_at}
use Rattle.sc_resolve.proofs.canonical.is_counting.Goals as goal

pub returns-then-order-at : goal.returns-then-order-at
returns-then-order-at c = (λ t. cc, λ e. absurd (c.if-order-at.true (omega (arith, counting_at 0 c.args.order.now e c.loop-at.at 0 c.loop-at-test.true))))

pub returns : goal.returns
returns c = (λ t. counting_is 0 c.args.order.now (λ k less. omega (arith, c.loop-at.invariant k (omega arith))), λ e. refl)
