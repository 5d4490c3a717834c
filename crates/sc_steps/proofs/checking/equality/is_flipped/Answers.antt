use Rattle.std.proofs.Common.{sym, true≢false}
use Rattle.sc_steps.proofs.EqualityChecks.{none_of_length, flipped_where, not_flipped}
use Rattle.sc_steps.proofs.checking.equality.is_flipped.Goals as goal

pub returns-then-is_empty : goal.returns-then-is_empty
returns-then-is_empty c =
    let at = rw c.as_slice-literals.ensures at c.in-Some.ensures.value in
    let found = rw (c.as_slice-literals.ensures, c.as_slice.ensures) at c.in-Some-strip_changed.ensures.found in
    flipped_where c.args.of.now c.args.c.now c.args.a c.in-Some.l.now c.in-Some-strip_changed.turned.now c.in-Some-strip_changed.rest.now
    c.is_literal_flipped.result at found (none_of_length c.in-Some-strip_changed.rest.now (sym c.if-is_empty.ensures)) c.is_literal_flipped.ensures

pub returns-in-None-strip_changed : goal.returns-in-None-strip_changed
returns-in-None-strip_changed c =
    let at = rw c.as_slice-literals.ensures at c.in-Some.ensures.value in
    let none = rw (c.as_slice-literals.ensures, c.as_slice.ensures) at c.in-None-strip_changed.ensures.none in
    (λ f. absurd (true≢false (sym f)), λ h. absurd (not_flipped c.args.of.now c.args.c.now c.args.a c.in-Some.l.now at none h))
