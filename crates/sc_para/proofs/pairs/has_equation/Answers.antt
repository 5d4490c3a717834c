use Rattle.std.proofs.Common.{◌≡◌, ◌∙◌, sym, ap, ◌<◌, ◌⊎◌, inl, inr, length, ℕ, Some, true, slice_get, arith}
use Rattle.std.proofs.lemmas.Option.{slice_get_read, slice_get_within}
use Rattle.sc_term.specs.declared.Term.{Term}
use Rattle.sc_term.specs.Refuted.{equation}
use Rattle.sc_core_rules.proofs.StepLaws.{same_some}
use Rattle.sc_para.proofs.PairSites.{none_so, less_or_same}
use Rattle.sc_para.proofs.pairs.has_equation.Goals as goal

pub loop-l-preserved : goal.loop-l-preserved
loop-l-preserved c = λ k less left right h. by k left right h (less_or_same k c.loop-l.l-index less)
  where
    by : (k : ℕ) (left right : Term) → slice_get c.args.literals.now k ≡ Some (equation true left right) → (k < c.loop-l.l-index) ⊎ (k ≡ c.loop-l.l-index) → ⊥
    by k left right h (inl less) = c.loop-l.invariant k less left right h
    by k left right h (inr e) =
        let there = slice_get_read c.args.literals.now (length c.args.literals.now) c.loop-l.l-index c.l-item.result (λ i. length c.args.literals.now) c.loop-l-test.true c.l-item.is in
        none_so c.positive_sides.result c.is_some.result _ c.is_some.ensures c.if-is_some.false c.positive_sides.ensures.none left right
        (same_some (slice_get c.args.literals.now c.loop-l.l-index) c.l-item.result (equation true left right) there (ap (λ n. slice_get c.args.literals.now n) (sym e) ∙ h))

pub returns : goal.returns
returns c = λ e k left right h. c.loop-l.invariant k (omega (arith, slice_get_within c.args.literals.now k (equation true left right) h)) left right h
