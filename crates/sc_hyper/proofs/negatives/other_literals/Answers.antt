use Rattle.std.proofs.Common.{◌≡◌, ◌∙◌, sym, ap, subst, ℕ, ◌+◌, List, [], ◌∷◌, ◌++◌, Some, map, length, length-append, arith}
use Rattle.std.proofs.lemmas.Option.{slice_get_read}
use Rattle.sc_term.specs.declared.Literal.{Literal}
use Rattle.sc_term.specs.Numbering.{numbered}
use Rattle.sc_resolve.specs.Extending.{Extends, Below}
use Rattle.sc_hyper.specs.Negatives.{IsPickedAt, IsOther}
use Rattle.sc_hyper.proofs.ExtendingLaws.{further}
use Rattle.sc_hyper.proofs.NegativeLaws.{itself, picked_rise, taken, left_out, also_there, are_picked}
use Rattle.sc_hyper.proofs.negatives.other_literals.Goals as goal
use Rattle.sc_hyper.proofs.negatives.other_literals.Goals.{then-number-target+in_ok-push+in_ok-copy_literal+in_ok-push-2, else-number-target}

pub loop-at-preserved : goal.loop-at-preserved
loop-at-preserved c =
    let all = c.as_slice-all.result.now in
    let at = c.loop-at.at in
    let l = c.index-all-at.result in
    let there = slice_get_read all (length all) at l (λ i. length all) c.loop-at-test.true c.index-all-at.is in
    elim c.if-number-target.branch [
      | then-number-target+in_ok-push+in_ok-copy_literal+in_ok-push-2 w ↦
          let ns : c.if-number-target.numbers ≡ c.loop-at.numbers ++ (at + 1) ∷ [] = w.numbers-is ∙ w.in_ok-push.ensures.ok in
          let ls : c.if-number-target.literals ≡ c.loop-at.literals ++ l ∷ [] = w.literals-is ∙ w.in_ok-push-2.ensures.ok ∙ ap (λ (k : Literal). c.loop-at.literals ++ k ∷ []) w.in_ok-copy_literal.ensures in
          record {
            are = further itself (IsPickedAt (IsOther c.args.target) all) (picked_rise (IsOther c.args.target) all) at [] c.loop-at.numbers c.if-number-target.numbers c.loop-at.invariant.are
                (taken (IsOther c.args.target) all at l there c.loop-at.numbers c.if-number-target.numbers w.if-number-target.true ns);
            few = omega (arith, c.loop-at.invariant.few, ap (λ (ks : List Literal). length ks) ls, length-append c.loop-at.literals (l ∷ []));
            there = ap (λ (ks : List Literal). map Some ks) ls ∙ also_there all at l there c.loop-at.numbers c.loop-at.literals c.loop-at.invariant.there ∙ ap (λ (ks : List ℕ). map (numbered all) ks) (sym ns);
          }
      | else-number-target w ↦ record {
        are = subst (λ (ks : List ℕ). Extends itself (Below (IsPickedAt (IsOther c.args.target) all) (at + 1)) (length ks + 1) [] ks) (sym w.numbers-is)
            (further itself (IsPickedAt (IsOther c.args.target) all) (picked_rise (IsOther c.args.target) all) at [] c.loop-at.numbers c.loop-at.numbers c.loop-at.invariant.are (left_out (IsOther c.args.target) all at l there c.loop-at.numbers (λ p. p w.if-number-target.false)));
        few = omega (arith, c.loop-at.invariant.few, ap (λ (ks : List Literal). length ks) w.literals-is);
        there = ap (λ (ks : List Literal). map Some ks) w.literals-is ∙ c.loop-at.invariant.there ∙ ap (λ (ks : List ℕ). map (numbered all) ks) (sym w.numbers-is);
      }
    ]

pub returns-clause-are : goal.returns-clause-are
returns-clause-are c =
    let all = c.as_slice-all.result.now in
    let long : c.loop-at.at ≡ length all = omega (arith, c.loop-at.auto.at-end) in
    record {
      are = are_picked (IsOther c.args.target) c.args.c.now c.loop-at.numbers
          (subst (λ (ls : List Literal). Extends itself (Below (IsPickedAt (IsOther c.args.target) ls) (length ls)) (length c.loop-at.numbers + 1) [] c.loop-at.numbers) c.as_slice-all.ensures
          (subst (λ n. Extends itself (Below (IsPickedAt (IsOther c.args.target) all) n) (length c.loop-at.numbers + 1) [] c.loop-at.numbers) long c.loop-at.invariant.are));
      there = c.loop-at.invariant.there ∙ ap (λ (ls : List Literal). map (numbered ls) c.loop-at.numbers) c.as_slice-all.ensures;
    }
