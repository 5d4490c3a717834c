use Rattle.std.proofs.Common.{sym, subst, MatchOption, arith}
use Rattle.std.proofs.lemmas.List.Elements.{AllWithin-more, at_read}
use Rattle.sc_term.specs.declared.Term.{Term}
use Rattle.sc_term.specs.Term.{term_weight, term_depth}
use Rattle.sc_term.specs.Path.{IsSubtermAt}
use Rattle.sc_term.proofs.Occurrences.{at-most-largest}
use Rattle.sc_demod.specs.Finding.{IsWithin, FindsNone, Finds}
use Rattle.sc_demod.proofs.WeightLaws.{one_of_sum, few_terms}
use Rattle.sc_demod.proofs.FindLaws.{found_inner, here_where, found_in_terms, none_in_terms}
use Rattle.sc_demod.proofs.find.+find.Goals as goal

pub find_in_term-returns-in-Some : goal.find_in_term-returns-in-Some
find_in_term-returns-in-Some t c =
    let demods = c.args.demods.now in
    let r = c.in-Some.inner in
    let told = subst (λ o. MatchOption o (FindsNone demods (IsSubtermAt c.as_slice.result.now)) (λ x. Finds demods (IsSubtermAt c.as_slice.result.now) x.path.items x.place x.terms)) c.in-Some.is c.in_ok-inner-in-App.ensures in
    found_inner demods c.args.t.now c.in-App.field-0 c.in-App.args r.path.items r.place r.terms c.in-App.is
    (subst (λ ts. Finds demods (IsSubtermAt ts) r.path.items r.place r.terms) c.as_slice.ensures told)

pub find_in_term-returns-in-None : goal.find_in_term-returns-in-None
find_in_term-returns-in-None t c =
    let demods = c.args.demods.now in
    let told = subst (λ o. MatchOption o (FindsNone demods (IsSubtermAt c.as_slice.result.now)) (λ x. Finds demods (IsSubtermAt c.as_slice.result.now) x.path.items x.place x.terms)) c.in-None.is c.in_ok-inner-in-App.ensures in
    here_where demods c.find_here.result c.args.t.now c.in-App.field-0 c.in-App.args c.in-App.is (subst (λ ts. FindsNone demods (IsSubtermAt ts)) c.as_slice.ensures told) c.find_here.ensures

pub find_in_terms-find_in_term-requires : goal.find_in_terms-find_in_term-requires
find_in_terms-find_in_term-requires t c =
    let args = c.args.args.now in
    let one = c.index-args-i.result in
    let shallow = at-most-largest term_depth args c.loop-i.i one c.loop-i-test.true c.index-args-i.is in
    let light = one_of_sum term_weight args c.loop-i.i one c.loop-i-test.true c.index-args-i.is in
    (omega (arith, shallow, c.decreases), omega (arith, light, c.requires))

pub find_in_terms-overflow_cast-i : goal.find_in_terms-overflow_cast-i
find_in_terms-overflow_cast-i t c = omega (arith, few_terms c.args.args.now, c.requires)

pub find_in_terms-overflow_add-i : goal.find_in_terms-overflow_add-i
find_in_terms-overflow_add-i t c = omega (arith, few_terms c.args.args.now, c.requires)

pub find_in_terms-returns-in-Some : goal.find_in_terms-returns-in-Some
find_in_terms-returns-in-Some t c =
    let demods = c.args.demods.now in
    let args = c.args.args.now in
    let i = c.loop-i.i in
    let one = c.index-args-i.result in
    let r = c.in-Some.inner in
    let told = subst (λ o. MatchOption o (FindsNone demods (IsWithin one)) (λ x. Finds demods (IsWithin one) x.path.items x.place x.terms)) c.in-Some.is c.in_ok-inner.ensures in
    subst (λ p. Finds demods (IsSubtermAt args) p r.place r.terms) (sym c.in_ok-insert-in-Some.ensures.items)
    (found_in_terms demods args i one r.path.items r.place r.terms c.loop-i-test.true c.index-args-i.is c.loop-i.invariant told)

pub find_in_terms-loop-i-preserved : goal.find_in_terms-loop-i-preserved
find_in_terms-loop-i-preserved t c =
    let demods = c.args.demods.now in
    let args = c.args.args.now in
    let i = c.loop-i.i in
    let one = c.index-args-i.result in
    let none = λ (t : Term). FindsNone demods (IsWithin t) in
    let told = subst (λ o. MatchOption o (FindsNone demods (IsWithin one)) (λ x. Finds demods (IsWithin one) x.path.items x.place x.terms)) c.in-None.is c.in_ok-inner.ensures in
    AllWithin-more none args 0 i c.loop-i.invariant (at_read args none i one c.loop-i-test.true c.index-args-i.is told)

pub find_in_terms-returns : goal.find_in_terms-returns
find_in_terms-returns t c = none_in_terms c.args.demods.now c.args.args.now (λ k d low high. c.loop-i.invariant k d low (omega arith))
