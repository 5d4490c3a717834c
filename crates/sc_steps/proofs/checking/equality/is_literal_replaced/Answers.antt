use Rattle.std.proofs.Common.{sym, true≢false, refl}
use Rattle.sc_steps.proofs.EqualityChecks.{literal_replaced_where}
use Rattle.sc_steps.proofs.checking.equality.is_literal_replaced.Goals as goal

pub returns-then-are_alike : goal.returns-then-are_alike
returns-then-are_alike c =
    let exact = rw (c.as_slice.ensures, c.as_slice-then-are_alike.ensures) at c.is_replaced.ensures in
    literal_replaced_where c.args.l.now c.args.side c.args.m.now c.args.path.now c.args.changed.now c.in-Some.left.now c.in-Some.right.now
    c.chosen_first.result.0.now c.chosen_first.result.1.now c.is_replaced.result c.in-Some.ensures.found c.chosen_first.ensures.chosen c.chosen_first.ensures.other
    (c.if-are_alike.ensures.0 refl) exact

pub returns-in-None : goal.returns-in-None
returns-in-None c = (λ so. absurd (true≢false (sym so)), λ h. absurd (c.in-None.ensures.none h.0 h.1 h.2))
