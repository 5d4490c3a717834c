use Rattle.std.proofs.Common.{◌≡◌, ◌∙◌, sym, ap, subst, true, false, [], map}
use Rattle.sc_term.specs.Clause.{literal_width}
use Rattle.sc_term.specs.Term.{joined, largest, term_under, term_variables, term_width}
use Rattle.sc_term.proofs.TermLaws.{same_symbol}
use Rattle.sc_unify.specs.Bindings.{bindings}
use Rattle.sc_unify.specs.Matching.{Matches, IsMatched, IsMatch, filled}
use Rattle.sc_unify.proofs.Unifiers.{differs}
use Rattle.sc_unify.proofs.MatchingLaws.{is_match, no_match}
use Rattle.sc_unify.proofs.matching.match_onto.Goals as goal

pub returns-then-not-branch : goal.returns-then-not-branch
returns-then-not-branch c =
    let p = c.args.pattern.now in
    let t = c.args.target.now in
    let bs = bindings c.match_terms.new.bound.items in
    let told = subst (λ q. Matches q (bindings c.new-bound.result.items) bs (λ s. map (term_under s) c.as_slice.result.now ≡ c.as_slice-2.result.now) (joined (map term_variables c.as_slice.result.now)))
    c.if-not-branch.true c.in_ok-match_terms.ensures in
    let empty = subst (λ old. Matches false old bs (λ s. map (term_under s) c.as_slice.result.now ≡ c.as_slice-2.result.now) (joined (map term_variables c.as_slice.result.now)))
    (ap bindings c.new-bound.ensures.items) told in
    let left = subst (λ l. Matches false [] bs (λ s. map (term_under s) l ≡ c.as_slice-2.result.now) (joined (map term_variables l))) c.as_slice.ensures empty in
    no_match p t bs (subst (λ l. Matches false [] bs (λ s. map (term_under s) p.args ≡ l) (joined (map term_variables p.args))) c.as_slice-2.ensures left)

pub returns : goal.returns
returns c =
    let p = c.args.pattern.now in
    let t = c.args.target.now in
    let bs = bindings c.match_terms.new.bound.items in
    let told = subst (λ q. Matches q (bindings c.new-bound.result.items) bs (λ s. map (term_under s) c.as_slice.result.now ≡ c.as_slice-2.result.now) (joined (map term_variables c.as_slice.result.now)))
    c.if-not-branch.false c.in_ok-match_terms.ensures in
    let empty = subst (λ old. Matches true old bs (λ s. map (term_under s) c.as_slice.result.now ≡ c.as_slice-2.result.now) (joined (map term_variables c.as_slice.result.now)))
    (ap bindings c.new-bound.ensures.items) told in
    let left = subst (λ l. Matches true [] bs (λ s. map (term_under s) l ≡ c.as_slice-2.result.now) (joined (map term_variables l))) c.as_slice.ensures empty in
    let both = subst (λ l. Matches true [] bs (λ s. map (term_under s) p.args ≡ l) (joined (map term_variables p.args))) c.as_slice-2.ensures left in
    let same = same_symbol p.pred t.pred (sym (differs p.pred.0 t.pred.0 (sym c.if-ne.ensures))) in
    let wide = c.terms_width-width.ensures ∙ ap (λ l. largest (map term_width l)) c.as_slice-3.ensures in
    let made = c.in_ok-fill.ensures ∙ (λ i. filled (bindings (c.as_slice-4.ensures.value i)) (wide i)) in
    subst (IsMatch p t) (sym made) (is_match p t bs same both)
