use Rattle.std.proofs.Common.{◌≡◌, ◌∙◌, sym, ap, subst, refl, List, length, get_or, true≢false, arith}
use Rattle.sc_term.specs.declared.Term.{Term}
use Rattle.sc_term.specs.declared.Literal.{Literal}
use Rattle.sc_term.specs.declared.Numbered.{Numbered}
use Rattle.sc_term.specs.Path.{IsSubtermAt}
use Rattle.sc_demod.specs.Finding.{FindsSome}
use Rattle.sc_demod.proofs.RedexLaws.{clause_has, clause_has_none}
use Rattle.sc_demod.proofs.redex.has_redex.Goals as goal

-- the clause as the code reads it
abbrev Has : List Numbered → List Term → Type 0
Has demods args = FindsSome demods (IsSubtermAt args)

pub returns-then-branch : goal.returns-then-branch
returns-then-branch c = (
  λ e.
      let l = c.index-literals-i.result in
      let here : l ≡ get_or c.args.c.now.literals c.loop-i.i l = c.index-literals-i.is ∙ ap (λ (ls : List Literal). get_or ls c.loop-i.i l) c.as_slice-literals.ensures in
      let told = c.in_ok-has_redex_in_terms.ensures.0 c.if-branch.true in
      clause_has c.args.c.now c.args.d.now c.loop-i.i l (omega (arith, c.loop-i-test.true, ap (λ (ls : List Literal). length ls) c.as_slice-literals.ensures)) here
      (subst (λ ds. Has ds l.args) c.from_ref-demods.ensures.value (subst (Has c.from_ref-demods.result.now) (c.as_slice.ensures ∙ ap (λ (m : Literal). m.args) (sym c.index-literals-i.is)) told)),
  λ h. refl,
)

pub returns : goal.returns
returns c = (
  λ e. absurd (true≢false (sym e)),
  λ h. absurd (clause_has_none c.args.c.now c.args.d.now (λ k l low high. c.loop-i.invariant k l low (omega (arith, high, ap (λ (ls : List Literal). length ls) c.as_slice-literals.ensures))) h),
)
