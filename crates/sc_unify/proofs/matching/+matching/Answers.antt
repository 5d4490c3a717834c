use Rattle.std.proofs.Common.{◌≡◌, ◌∙◌, sym, ap, subst, ℕ, ◌+◌, ◌≤◌, ◌++◌, true, false, map, take, length, arith}
use Rattle.sc_term.specs.Term.{joined, term_under, term_variables}
use Rattle.sc_term.proofs.TermLaws.{same_symbol}
use Rattle.sc_term.proofs.TermSteps.{variables-App}
use Rattle.sc_unify.specs.Bindings.{bindings}
use Rattle.sc_unify.specs.Matching.{Matches, IsMatched}
use Rattle.sc_unify.proofs.Unifiers.{differs}
use Rattle.sc_unify.proofs.MatchingLaws.{answer_converted, arguments_equal, composed, converted, row-more, row-at, variables-more, nothing_matched}
use Rattle.std.proofs.lemmas.List.{take_all}
use Rattle.sc_unify.proofs.matching.+matching.Goals as goal

pub match_term-returns-else-ne : goal.match_term-returns-else-ne
match_term-returns-else-ne t c =
    let p = c.in-App-App in
    let same = same_symbol p.f p.g (sym (differs p.f.0 p.g.0 (sym c.if-ne.ensures))) in
    let vars = ap (λ ts. joined (map term_variables ts)) c.as_slice.ensures ∙ sym (variables-App p.f p.patterns) ∙ sym (ap term_variables p.is-0) in
    answer_converted c.match_terms.result (bindings c.args.bound.now.items) (bindings c.match_terms.new.bound.items)
    (λ s. map (term_under s) c.as_slice.result.now ≡ c.as_slice-in-App-App.result.now) (λ s. term_under s c.args.pattern.now ≡ c.args.target.now)
    (joined (map term_variables c.as_slice.result.now)) (term_variables c.args.pattern.now)
    (λ s. arguments_equal s c.args.pattern.now c.args.target.now p.f p.g p.patterns p.targets c.as_slice.result.now c.as_slice-in-App-App.result.now p.is-0 p.is-1 c.as_slice.ensures c.as_slice-in-App-App.ensures same)
    vars c.match_terms.ensures

pub match_terms-returns-then-not-branch : goal.match_terms-returns-then-not-branch
match_terms-returns-then-not-branch t c = λ s gives e.
    let told = subst (λ q. Matches q (bindings c.loop-i.bound.items) (bindings c.match_term.new.bound.items) (λ s. term_under s c.index-patterns-i.result ≡ c.index-targets-i.result)
    (term_variables c.index-patterns-i.result)) c.if-not-branch.true c.in_ok-match_term.ensures in
    let here = row-at (term_under s) c.args.patterns.now c.args.targets.now c.loop-i.i c.index-patterns-i.result c.index-targets-i.result c.loop-i-test.true c.index-patterns-i.is c.index-targets-i.is e in
    told s ((c.loop-i.invariant.matched.same s).1 (gives, here.0)) here.1

pub match_terms-loop-i-preserved : goal.match_terms-loop-i-preserved
match_terms-loop-i-preserved t c =
    let ps = c.args.patterns.now in
    let ts = c.args.targets.now in
    let i = c.loop-i.i in
    let p = c.index-patterns-i.result in
    let told = subst (λ q. Matches q (bindings c.loop-i.bound.items) (bindings c.match_term.new.bound.items) (λ s. term_under s p ≡ c.index-targets-i.result) (term_variables p))
    c.if-not-branch.false c.in_ok-match_term.ensures in
    let both = composed (bindings c.args.bound.now.items) (bindings c.loop-i.bound.items) (bindings c.match_term.new.bound.items)
    (λ s. map (term_under s) (take i ps) ≡ take i ts) (λ s. term_under s p ≡ c.index-targets-i.result) (joined (map term_variables (take i ps))) (term_variables p) c.loop-i.invariant.matched told in
    record {
      long = c.loop-i.invariant.long;
      matched = converted (bindings c.args.bound.now.items) (bindings c.match_term.new.bound.items)
          (λ s. (map (term_under s) (take i ps) ≡ take i ts) × (term_under s p ≡ c.index-targets-i.result)) (λ s. map (term_under s) (take (i + 1) ps) ≡ take (i + 1) ts)
          (joined (map term_variables (take i ps)) ++ term_variables p) (joined (map term_variables (take (i + 1) ps)))
          (λ s. row-more (term_under s) ps ts i p c.index-targets-i.result c.loop-i-test.true c.loop-i.invariant.long c.index-patterns-i.is c.index-targets-i.is)
          (variables-more ps i p c.loop-i-test.true c.index-patterns-i.is) both;
    }

pub match_terms-returns : goal.match_terms-returns
match_terms-returns t c =
    let ps = c.args.patterns.now in
    let ts = c.args.targets.now in
    let i = c.loop-i.i in
    let all = take_all i ps c.loop-i-test.false in
    let others = take_all i ts (omega (arith, c.loop-i-test.false, c.loop-i.invariant.long)) in
    subst (λ l. IsMatched (bindings c.args.bound.now.items) (bindings c.loop-i.bound.items) (λ s. map (term_under s) l ≡ ts) (joined (map term_variables l))) all
    (subst (λ l. IsMatched (bindings c.args.bound.now.items) (bindings c.loop-i.bound.items) (λ s. map (term_under s) (take i ps) ≡ l) (joined (map term_variables (take i ps)))) others
    c.loop-i.invariant.matched)
