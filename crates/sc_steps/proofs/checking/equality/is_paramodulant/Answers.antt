use Rattle.std.proofs.Common.{◌∙◌, sym, true≢false, refl}
use Rattle.sc_steps.proofs.EqualityChecks.{paramodulant_where, not_paramodulant_but}
use Rattle.sc_steps.proofs.checking.equality.is_paramodulant.Goals as goal

pub returns-then-is_without : goal.returns-then-is_without
returns-then-is_without c =
    let from = rw c.as_slice-froms.ensures at c.in-Some-Some.ensures.value in
    let into = rw c.as_slice-intos.ensures at c.in-Some-Some.ensures'.value in
    let found = rw (c.as_slice-intos.ensures, c.as_slice.ensures) at c.in-Some.ensures.found in
    let others = rw c.as_slice-froms.ensures at (c.if-is_without.ensures.0 refl) in
    paramodulant_where c.args.from.now c.args.into.now c.args.c.now c.args.a c.args.b c.args.side c.args.path.now c.in-Some-Some.l.now c.in-Some-Some.m.now
    c.in-Some.changed.now c.in-Some.rest.now c.is_literal_replaced.result from into found others c.is_literal_replaced.ensures

pub returns-else-is_without : goal.returns-else-is_without
returns-else-is_without c =
    let from = rw c.as_slice-froms.ensures at c.in-Some-Some.ensures.value in
    let into = rw c.as_slice-intos.ensures at c.in-Some-Some.ensures'.value in
    let found = rw (c.as_slice-intos.ensures, c.as_slice.ensures) at c.in-Some.ensures.found in
    let others = rw c.as_slice-froms.ensures at c.if-is_without.ensures in (
      λ so. absurd (true≢false (sym so ∙ c.if-is_without.false)),
      λ h. absurd (not_paramodulant_but c.args.from.now c.args.into.now c.args.c.now c.args.a c.args.b c.args.side c.args.path.now c.in-Some-Some.l.now
          c.in-Some-Some.m.now c.in-Some.changed.now c.in-Some.rest.now from into found (λ e. true≢false (sym (others.1 e))) h),
    )
