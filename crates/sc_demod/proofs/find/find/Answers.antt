use Rattle.std.proofs.Common.{◌∙◌, sym, ap, subst, List, map, sum, MatchOption, arith}
use Rattle.std.proofs.lemmas.List.Elements.{AllWithin-more, at_read}
use Rattle.sc_term.specs.declared.Term.{Term}
use Rattle.sc_term.specs.declared.Literal.{Literal}
use Rattle.sc_term.specs.Term.{term_weight}
use Rattle.sc_term.specs.Clause.{literal_weight}
use Rattle.sc_term.specs.Path.{IsSubtermAt}
use Rattle.sc_demod.specs.Finding.{FindsNone, Finds}
use Rattle.sc_demod.proofs.WeightLaws.{one_of_sum, few_literals}
use Rattle.sc_demod.proofs.FindLaws.{found_in_literals, none_in_literals}
use Rattle.sc_demod.proofs.find.find.Goals as goal

pub find_in_terms-requires : goal.find_in_terms-requires
find_in_terms-requires c =
    let l = c.index-literals-i.result in
    let same = ap (λ (ts : List Term). sum (map term_weight ts)) (c.as_slice.ensures ∙ ap (λ (m : Literal). m.args) (sym c.index-literals-i.is)) in
    let light = one_of_sum literal_weight c.args.literals.now c.loop-i.i l c.loop-i-test.true c.index-literals-i.is in
    omega (arith, same, light, c.requires)

pub overflow_cast-literal : goal.overflow_cast-literal
overflow_cast-literal c = omega (arith, few_literals c.args.literals.now, c.requires)

pub overflow_add-literal : goal.overflow_add-literal
overflow_add-literal c = omega (arith, few_literals c.args.literals.now, c.requires)

pub returns-in-Some : goal.returns-in-Some
returns-in-Some c =
    let demods = c.args.demods.now in
    let l = c.index-literals-i.result in
    let args = c.as_slice.result.now in
    let r = c.in-Some.redex in
    let told : Finds demods (IsSubtermAt args) r.path.items r.place r.terms = subst (λ o. MatchOption o (FindsNone demods (IsSubtermAt args)) (λ x. Finds demods (IsSubtermAt args) x.path.items x.place x.terms)) c.in-Some.is c.in_ok-redex.ensures in
    let here : Finds demods (IsSubtermAt l.args) r.path.items r.place r.terms = subst (λ ts. Finds demods (IsSubtermAt ts) r.path.items r.place r.terms) (c.as_slice.ensures ∙ ap (λ (m : Literal). m.args) (sym c.index-literals-i.is)) told in
    found_in_literals demods c.args.literals.now c.loop-i.i l r.path.items r.place r.terms c.loop-i-test.true c.index-literals-i.is c.loop-i.invariant here

pub loop-i-preserved : goal.loop-i-preserved
loop-i-preserved c =
    let demods = c.args.demods.now in
    let i = c.loop-i.i in
    let l = c.index-literals-i.result in
    let args = c.as_slice.result.now in
    let none = λ (m : Literal). FindsNone demods (IsSubtermAt m.args) in
    let told : FindsNone demods (IsSubtermAt args) = subst (λ o. MatchOption o (FindsNone demods (IsSubtermAt args)) (λ x. Finds demods (IsSubtermAt args) x.path.items x.place x.terms)) c.in-None.is c.in_ok-redex.ensures in
    let here : FindsNone demods (IsSubtermAt l.args) = subst (λ ts. FindsNone demods (IsSubtermAt ts)) (c.as_slice.ensures ∙ ap (λ (m : Literal). m.args) (sym c.index-literals-i.is)) told in
    AllWithin-more none c.args.literals.now 0 i c.loop-i.invariant
    (at_read c.args.literals.now none i l c.loop-i-test.true c.index-literals-i.is here)

pub returns : goal.returns
returns c = none_in_literals c.args.demods.now c.args.literals.now (λ k d low high. c.loop-i.invariant k d low (omega arith))
