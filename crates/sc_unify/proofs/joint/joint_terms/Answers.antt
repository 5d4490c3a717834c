use Rattle.std.proofs.Common.{◌≡◌, ◌∙◌, sym, ap, subst, refl, [], map}
use Rattle.sc_term.specs.Term.{joined}
use Rattle.sc_term.specs.Clause.{variables}
use Rattle.sc_term.specs.Substitution.{clause_under}
use Rattle.sc_term.specs.Occurrence.{noted}
use Rattle.sc_term.proofs.Occurrences.{noted-firsts}
use Rattle.sc_unify.specs.Bindings.{bindings, finished}
use Rattle.sc_unify.specs.Joint.{value_at, values_above}
use Rattle.sc_unify.proofs.JointTerms.{told_terms, told_within, told_beyond}
use Rattle.sc_unify.proofs.joint.joint_terms.Goals as goal

pub returns-clause-limits : goal.returns-clause-limits
returns-clause-limits c = λ own pairs parts shifted unifier joint.
    let bs = bindings c.as_slice.result.now in
    let same = ap (λ b. finished (bindings b)) c.as_slice.ensures.value ∙ c.in_ok-bound.ensures.same in
    let not = told_beyond own c.as_slice-parents.result.now parts pairs c.args.s.now bs same (c.as_slice-parents.ensures ∙ shifted) unifier joint c.in-None.ensures in
    (λ e. cc, λ is. absurd (not is))

pub returns-in-Some-clause-limits : goal.returns-in-Some-clause-limits
returns-in-Some-clause-limits c = λ own pairs parts shifted unifier joint.
    let bs = bindings c.as_slice.result.now in
    let same = ap (λ b. finished (bindings b)) c.as_slice.ensures.value ∙ c.in_ok-bound.ensures.same in
    let is = told_within own c.as_slice-parents.result.now parts pairs c.args.s.now bs same (c.as_slice-parents.ensures ∙ shifted) unifier joint c.in-Some.field-0 c.in-Some.ensures in
    (λ e. is, λ w. refl)

pub returns-in-Some-clause-parts : goal.returns-in-Some-clause-parts
returns-in-Some-clause-parts c = λ own pairs parts shifted unifier joint.
    let ps = c.as_slice-parents.result.now in
    let order = c.as_slice-in-Some-3.ensures.value ∙ c.in_ok-order-in-Some.ensures
    ∙ ap (λ b. noted [] (joined (map variables (map (clause_under (finished (bindings b))) ps)))) c.as_slice-in-Some.ensures.value
    ∙ noted-firsts (joined (map variables (map (clause_under (finished (bindings c.in_ok-bound.bound.items))) ps))) in
    let told = c.in_ok-told-in-Some.ensures ∙ ap (λ b. values_above (value_at (bindings b) c.as_slice-in-Some-3.result.now) 0 ps) c.as_slice-in-Some-2.ensures.value in
    told_terms own ps parts pairs c.args.s.now (bindings c.in_ok-bound.bound.items) c.in_ok-bound.ensures.same (c.as_slice-parents.ensures ∙ shifted) unifier joint
    c.as_slice-in-Some-3.result.now c.in_ok-told-in-Some.told order told
