use Rattle.std.proofs.Common.{◌≡◌, ◌∙◌, sym, ap, subst, true, false, []}
use Rattle.sc_term.specs.Term.{term_under, term_variables}
use Rattle.sc_unify.specs.Bindings.{bindings}
use Rattle.sc_unify.specs.Matching.{Matches, IsTermMatch, filled}
use Rattle.sc_unify.proofs.FittingLaws.{is_term_match, no_term_match}
use Rattle.sc_unify.proofs.fitting.match_term_onto.Goals as goal

pub returns-then-not-branch : goal.returns-then-not-branch
returns-then-not-branch c =
    let p = c.args.pattern.now in
    let t = c.args.target.now in
    let bs = bindings c.match_term.new.bound.items in
    let told = subst (λ q. Matches q (bindings c.clear.new.self.items) bs (λ s. term_under s p ≡ t) (term_variables p)) c.if-not-branch.true c.in_ok-match_term.ensures in
    no_term_match p t bs (subst (λ old. Matches false old bs (λ s. term_under s p ≡ t) (term_variables p)) (ap bindings c.clear.ensures.items) told)

pub returns : goal.returns
returns c =
    let p = c.args.pattern.now in
    let t = c.args.target.now in
    let bs = bindings c.match_term.new.bound.items in
    let told = subst (λ q. Matches q (bindings c.clear.new.self.items) bs (λ s. term_under s p ≡ t) (term_variables p)) c.if-not-branch.false c.in_ok-match_term.ensures in
    let matched = subst (λ old. Matches true old bs (λ s. term_under s p ≡ t) (term_variables p)) (ap bindings c.clear.ensures.items) told in
    let made = c.in_ok-fill.ensures ∙ (λ i. filled (bindings (c.as_slice.ensures.value i)) (c.width_of-width.ensures i)) in
    subst (IsTermMatch p t) (sym made) (is_term_match p t bs matched)
