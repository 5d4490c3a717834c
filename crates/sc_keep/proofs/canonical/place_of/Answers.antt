use Rattle.std.proofs.Common.{sym, arith}
use Rattle.sc_keep.proofs.CanonicalLaws.{place_here, place_nowhere}
use Rattle.sc_keep.proofs.canonical.place_of.Goals as goal

pub returns : goal.returns
returns c =
    let long = c.loop-at-test.false in
    sym (place_nowhere c.args.order.now c.args.n (λ k less. c.loop-at.invariant k (omega (arith, less, long))))

pub returns-then-order-at : goal.returns-then-order-at
returns-then-order-at c = sym (place_here c.args.order.now c.args.n c.loop-at.at c.loop-at-test.true c.loop-at.invariant c.if-order-at.true)
