use Rattle.std.proofs.Common.{◌≡◌, ◌∙◌, sym, subst, ℕ, ◌<◌, ◌≤◌, List, length, Contains, true, arith, true≢false, inl, inr}
use Rattle.std.proofs.lemmas.List.Elements.{AllWithin-more, at_read}
use Rattle.std.specs.List.{AllWithin}
use Rattle.sc_term.specs.declared.Literal.{Literal}
use Rattle.sc_term.specs.declared.Clause.{Clause}
use Rattle.sc_term.specs.declared.Term.{Term}
use Rattle.sc_term.specs.Proof.{AreOpposite}
use Rattle.sc_term.specs.Refuted.{equation}
use Rattle.sc_term.specs.Subsumption.{IsTautology}
use Rattle.sc_subsume.proofs.tautology.is_tautology.Goals as goal

abbrev IsReflexive : Literal → Type 0
IsReflexive l = (t : Term) × (l ≡ equation true t t)

abbrev HasOpposite : List Literal → Literal → Type 0
HasOpposite all l = (m : Literal) × Contains all m × AreOpposite l m

none : (c : Clause) (i : ℕ) → length c.literals ≤ i → AllWithin (λ l. ¬ IsReflexive l) c.literals 0 i → AllWithin (λ l. ¬ HasOpposite c.literals l) c.literals 0 i → ¬ IsTautology c
none c i all reflexive opposite (inl h) =
    opposite h.2.0 h.0 (omega arith) (let less : h.2.0 < length c.literals = h.2.1 in omega arith) (h.1, h.3, subst (λ l. AreOpposite l h.1) (sym h.2.2) h.4)
none c i all reflexive opposite (inr h) =
    reflexive h.1.0 (equation true h.0 h.0) (omega arith) (let less : h.1.0 < length c.literals = h.1.1 in omega arith) (h.0, h.1.2)

pub loop-l-preserved : goal.loop-l-preserved
loop-l-preserved c =
    let all = c.as_slice-literals.result.now in
    let i = c.loop-l.l-index in
    let reflexive = λ (l : Literal). ¬ IsReflexive l in
    let opposite = λ (l : Literal). ¬ HasOpposite all l in
    record {
      reflexive = AllWithin-more reflexive all 0 i c.loop-l.invariant.reflexive
          (at_read all reflexive i c.l-item.result c.loop-l-test.true c.l-item.is (λ h. true≢false (sym (c.is_reflexive.ensures.1 h) ∙ c.if-is_reflexive.false)));
      opposite = AllWithin-more opposite all 0 i c.loop-l.invariant.opposite
          (at_read all opposite i c.l-item.result c.loop-l-test.true c.l-item.is (λ h. true≢false (sym (c.has_opposite.ensures.1 h) ∙ c.if-has_opposite.false)));
    }

pub returns : goal.returns
returns c =
    let i = c.loop-l.l-index in
    let whole = c.as_slice-literals.ensures in
    let reflexive = subst (λ ls. AllWithin (λ l. ¬ IsReflexive l) ls 0 i) whole c.loop-l.invariant.reflexive in
    let opposite = subst (λ ls. AllWithin (λ l. ¬ HasOpposite ls l) ls 0 i) whole c.loop-l.invariant.opposite in
    let all = subst (λ ls. length ls ≤ i) whole c.loop-l-test.false in
    (λ e. absurd (true≢false (sym e)), λ h. absurd (none c.args.c.now i all reflexive opposite h))
