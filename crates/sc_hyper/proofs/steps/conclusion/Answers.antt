use Rattle.std.proofs.Common.{sym, ap, subst, List, Option, map, arith}
use Rattle.std.specs.Prelude.{MatchOption}
use Rattle.sc_term.specs.declared.Term.{Term}
use Rattle.sc_term.specs.declared.Clause.{Clause}
use Rattle.sc_term.specs.Term.{largest}
use Rattle.sc_term.specs.Clause.{width}
use Rattle.sc_resolve.specs.Parts.{IsOutside}
use Rattle.sc_hyper.specs.Making.{clauses_of, AreTermsOfAll}
use Rattle.sc_hyper.proofs.PairingLaws.{apart_wide}
use Rattle.sc_hyper.proofs.ConclusionLaws.{concludes, no_conclusion, told_of, terms_at_site, ready, not_opened}
use Rattle.sc_hyper.proofs.steps.conclusion.Goals as goal

pub terms_of_all-requires : goal.terms_of_all-requires
terms_of_all-requires c = let wide = apart_wide c.args.parents.now c.requires.kept in omega (arith, wide, ap (λ (cs : List Clause). largest (map width cs)) c.in_ok-apart.ensures)

pub returns-in-None : goal.returns-in-None
returns-in-None c = λ i is d.
    let ps = c.args.parents.now in
    let found = told_of ps c.args.lits.now c.args.others.now i c.in_ok-apart.apart c.in_ok-told.field-0 is c.in_ok-apart.ensures c.in_ok-told.ensures in
    no_conclusion ps c.args.lits.now c.args.others.now i is
    (subst (λ (o : Option (List (List Term))). MatchOption o (IsOutside (clauses_of ps) i.pairs) (λ told. AreTermsOfAll (clauses_of ps) i.pairs told)) c.in-None.is found) d

pub opening_of-requires-clause-told : goal.opening_of-requires-clause-told
opening_of-requires-clause-told c =
    let ps = c.args.parents.now in
    let lits = c.args.lits.now in
    let others = c.args.others.now in
    let terms = terms_at_site ps lits others c.requires.site.0 c.in_ok-apart.apart c.in_ok-told.field-0 c.in-Some.told c.requires.site.1 c.in_ok-apart.ensures c.in_ok-told.ensures c.in-Some.is in
    let told_so = subst (λ (ts : List (List Term)). AreTermsOfAll (clauses_of ps) c.requires.site.0.pairs ts) (sym c.as_slice.ensures) terms in
    (told_so.parts, record { terms = told_so.terms; within = told_so.joint.within })

pub returns-in-None-2 : goal.returns-in-None-2
returns-in-None-2 c = λ i is d k.
    let ps = c.args.parents.now in
    let lits = c.args.lits.now in
    let others = c.args.others.now in
    let terms = terms_at_site ps lits others i c.in_ok-apart.apart c.in_ok-told.field-0 c.in-Some.told is c.in_ok-apart.ensures c.in_ok-told.ensures c.in-Some.is in
    let told_so = subst (λ (ts : List (List Term)). AreTermsOfAll (clauses_of ps) i.pairs ts) (sym c.as_slice.ensures) terms in
    not_opened ps lits others i c.as_slice.result.now c.in_ok-opening.field-0 told_so c.in_ok-opening.ensures c.in-None-2.is

pub resolved-requires-clause-few : goal.resolved-requires-clause-few
resolved-requires-clause-few c =
    let ps = c.args.parents.now in
    let lits = c.args.lits.now in
    let others = c.args.others.now in
    let terms = terms_at_site ps lits others c.requires.site.0 c.in_ok-apart.apart c.in_ok-told.field-0 c.in-Some.told c.requires.site.1 c.in_ok-apart.ensures c.in_ok-told.ensures c.in-Some.is in
    let told_so = subst (λ (ts : List (List Term)). AreTermsOfAll (clauses_of ps) c.requires.site.0.pairs ts) (sym c.as_slice.ensures) terms in
    let all = ready ps lits others c.requires.site.0 c.as_slice.result.now c.in_ok-opening.field-0 c.in-Some-2.opening c.requires.site.1 told_so c.in_ok-opening.ensures c.in-Some-2.is in
    omega (arith, all.opened.few, c.requires.few)

pub resolved-requires-clause-there : goal.resolved-requires-clause-there
resolved-requires-clause-there c =
    let ps = c.args.parents.now in
    let lits = c.args.lits.now in
    let others = c.args.others.now in
    let terms = terms_at_site ps lits others c.requires.site.0 c.in_ok-apart.apart c.in_ok-told.field-0 c.in-Some.told c.requires.site.1 c.in_ok-apart.ensures c.in_ok-told.ensures c.in-Some.is in
    let told_so = subst (λ (ts : List (List Term)). AreTermsOfAll (clauses_of ps) c.requires.site.0.pairs ts) (sym c.as_slice.ensures) terms in
    let all = ready ps lits others c.requires.site.0 c.as_slice.result.now c.in_ok-opening.field-0 c.in-Some-2.opening c.requires.site.1 told_so c.in_ok-opening.ensures c.in-Some-2.is in
    all.opened.there

pub resolved-requires-clause-can : goal.resolved-requires-clause-can
resolved-requires-clause-can c =
    let ps = c.args.parents.now in
    let lits = c.args.lits.now in
    let others = c.args.others.now in
    let terms = terms_at_site ps lits others c.requires.site.0 c.in_ok-apart.apart c.in_ok-told.field-0 c.in-Some.told c.requires.site.1 c.in_ok-apart.ensures c.in_ok-told.ensures c.in-Some.is in
    let told_so = subst (λ (ts : List (List Term)). AreTermsOfAll (clauses_of ps) c.requires.site.0.pairs ts) (sym c.as_slice.ensures) terms in
    let all = ready ps lits others c.requires.site.0 c.as_slice.result.now c.in_ok-opening.field-0 c.in-Some-2.opening c.requires.site.1 told_so c.in_ok-opening.ensures c.in-Some-2.is in
    all.can

pub resolved-requires-clause-within : goal.resolved-requires-clause-within
resolved-requires-clause-within c =
    let ps = c.args.parents.now in
    let lits = c.args.lits.now in
    let others = c.args.others.now in
    let terms = terms_at_site ps lits others c.requires.site.0 c.in_ok-apart.apart c.in_ok-told.field-0 c.in-Some.told c.requires.site.1 c.in_ok-apart.ensures c.in_ok-told.ensures c.in-Some.is in
    let told_so = subst (λ (ts : List (List Term)). AreTermsOfAll (clauses_of ps) c.requires.site.0.pairs ts) (sym c.as_slice.ensures) terms in
    let all = ready ps lits others c.requires.site.0 c.as_slice.result.now c.in_ok-opening.field-0 c.in-Some-2.opening c.requires.site.1 told_so c.in_ok-opening.ensures c.in-Some-2.is in
    all.joint.within

pub returns : goal.returns
returns c = λ i is.
    let ps = c.args.parents.now in
    let lits = c.args.lits.now in
    let others = c.args.others.now in
    let terms = terms_at_site ps lits others i c.in_ok-apart.apart c.in_ok-told.field-0 c.in-Some.told is c.in_ok-apart.ensures c.in_ok-told.ensures c.in-Some.is in
    let told_so = subst (λ (ts : List (List Term)). AreTermsOfAll (clauses_of ps) i.pairs ts) (sym c.as_slice.ensures) terms in
    let all = ready ps lits others i c.as_slice.result.now c.in_ok-opening.field-0 c.in-Some-2.opening is told_so c.in_ok-opening.ensures c.in-Some-2.is in
    concludes ps lits others i c.in-Some-2.opening.parts c.in-Some-2.opening.lines c.in-Some-2.opening.part_lines c.in_ok-resolved.field-0 is all.joint all.opened c.in_ok-resolved.ensures
