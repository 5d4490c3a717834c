use Rattle.std.proofs.Common.{◌∙◌, sym, subst, refl, true≢false, arith}
use Rattle.std.proofs.lemmas.List.Elements.{AllWithin-more, at_read}
use Rattle.sc_term.specs.declared.Term.{Term}
use Rattle.sc_term.specs.Path.{IsSubtermAt}
use Rattle.sc_demod.specs.Finding.{IsWithin, FindsSome}
use Rattle.sc_demod.proofs.RedexLaws.{here_or_not, some_at, none_at_any}
use Rattle.sc_demod.proofs.redex.+has_redex.Goals as goal

pub has_redex_in_term-returns-else-branch : goal.has_redex_in_term-returns-else-branch
has_redex_in_term-returns-else-branch t c =
    let demods = c.args.demods.now in
    here_or_not demods c.fits_some.result c.args.t.now c.in-App.field-0 c.in-App.args c.in-App.is
    (λ h. true≢false (sym (c.in_ok-has_redex_in_terms-in-App.ensures.1 (subst (λ ts. FindsSome demods (IsSubtermAt ts)) (sym c.as_slice.ensures) h)) ∙ c.if-branch.false)) c.fits_some.ensures

pub has_redex_in_terms-returns-then-branch : goal.has_redex_in_terms-returns-then-branch
has_redex_in_terms-returns-then-branch t c = (
  λ e. some_at c.args.demods.now c.args.args.now c.loop-i.i c.index-args-i.result c.loop-i-test.true c.index-args-i.is (c.in_ok-has_redex_in_term.ensures.0 c.if-branch.true),
  λ h. refl,
)

pub has_redex_in_terms-loop-i-preserved : goal.has_redex_in_terms-loop-i-preserved
has_redex_in_terms-loop-i-preserved t c =
    let none = λ (t : Term). ¬ FindsSome c.args.demods.now (IsWithin t) in
    AllWithin-more none c.args.args.now 0 c.loop-i.i c.loop-i.invariant
    (at_read c.args.args.now none c.loop-i.i c.index-args-i.result c.loop-i-test.true c.index-args-i.is (λ h. true≢false (sym (c.in_ok-has_redex_in_term.ensures.1 h) ∙ c.if-branch.false)))

pub has_redex_in_terms-returns : goal.has_redex_in_terms-returns
has_redex_in_terms-returns t c = (
  λ e. absurd (true≢false (sym e)),
  λ h. absurd (none_at_any c.args.demods.now c.args.args.now (λ k d low high. c.loop-i.invariant k d low (omega arith)) h),
)
