use Rattle.std.proofs.Common.{◌≡◌, ◌∙◌, sym, ap, subst, true, false, map, take, length, arith, true≢false}
use Rattle.sc_term.specs.Term.{joined, term_under, term_variables}
use Rattle.sc_unify.specs.Matching.{Matches}
use Rattle.sc_subsume.specs.Search.{bindings}
use Rattle.sc_subsume.proofs.TakingLaws.{is_taken, is_refused, is_unlike}
use Rattle.sc_subsume.proofs.matching.match_literal.Goals as goal

pub returns-then-branch : goal.returns-then-branch
returns-then-branch c =
    let p = c.args.pattern.now in
    let t = c.args.target.now in
    let old = c.args.bound.now.items in
    let new = c.match_terms.new.bound.items in
    let told = subst (λ q. Matches q (bindings old) (bindings new) (λ s. map (term_under s) c.as_slice.result.now ≡ c.as_slice-2.result.now) (joined (map term_variables c.as_slice.result.now)))
    c.if-branch.true c.in_ok-match_terms.ensures.same in
    let left = subst (λ l. Matches true (bindings old) (bindings new) (λ s. map (term_under s) l ≡ c.as_slice-2.result.now) (joined (map term_variables l))) c.as_slice.ensures told in
    let both = subst (λ l. Matches true (bindings old) (bindings new) (λ s. map (term_under s) p.args ≡ l) (joined (map term_variables p.args))) c.as_slice-2.ensures left in
    let like = c.are_like.ensures.0 c.if-not-are_like.false in
    is_taken p t old new (joined (map term_variables p.args)) like.0 like.1 c.in_ok-match_terms.ensures.extends both

pub returns : goal.returns
returns c =
    let p = c.args.pattern.now in
    let t = c.args.target.now in
    let old = c.args.bound.now.items in
    let mid = c.match_terms.new.bound.items in
    let told = subst (λ q. Matches q (bindings old) (bindings mid) (λ s. map (term_under s) c.as_slice.result.now ≡ c.as_slice-2.result.now) (joined (map term_variables c.as_slice.result.now)))
    c.if-branch.false c.in_ok-match_terms.ensures.same in
    let left = subst (λ l. Matches false (bindings old) (bindings mid) (λ s. map (term_under s) l ≡ c.as_slice-2.result.now) (joined (map term_variables l))) c.as_slice.ensures told in
    let both = subst (λ l. Matches false (bindings old) (bindings mid) (λ s. map (term_under s) p.args ≡ l) (joined (map term_variables p.args))) c.as_slice-2.ensures left in
    is_refused p t old mid c.truncate.new.self.items c.in_ok-match_terms.ensures.extends
    (c.truncate.ensures.items ∙ ap (λ n. take n mid) (let e : c.len-before.result ≡ length old = omega arith in e)) both

pub returns-then-not-are_like : goal.returns-then-not-are_like
returns-then-not-are_like c = is_unlike c.args.pattern.now c.args.target.now c.args.bound.now.items (λ like. true≢false (sym (c.are_like.ensures.1 like) ∙ c.if-not-are_like.true))
