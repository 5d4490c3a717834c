use Rattle.std.proofs.Common.{◌∙◌, ap, sym, subst, length, List, ℕ, map, sum, ◌≤◌, ◌+◌, arith}
use Rattle.std.proofs.lemmas.Option.{slice_get_read}
use Rattle.sc_term.specs.declared.Term.{Term}
use Rattle.sc_term.specs.declared.Literal.{Literal}
use Rattle.sc_term.specs.Term.{term_weight}
use Rattle.sc_resolve.specs.Extending.{Extends}
use Rattle.sc_resolve.proofs.Extending.{goes_on, stops}
use Rattle.sc_para.specs.Spots.{pair_numbers}
use Rattle.sc_para.specs.Subterms.{IsUnder}
use Rattle.sc_para.specs.Pairs.{IsWithTarget}
use Rattle.sc_para.proofs.PairSites.{targets_rise, at_target, few_literals, light_literal}
use Rattle.sc_para.proofs.pairs.add_with_targets.Goals as goal

pub returns-then-len-limit : goal.returns-then-len-limit
returns-then-len-limit c =
    stops pair_numbers c.args.limit (IsWithTarget c.args.source.now c.args.spot c.args.literals.now) (targets_rise c.args.source.now c.args.spot c.args.literals.now)
    c.loop-at.at (length c.args.literals.now) c.args.sites.now c.loop-at.sites c.loop-at.invariant (omega arith) (omega arith)

pub overflow_cast-here : goal.overflow_cast-here
overflow_cast-here c = omega (arith, few_literals c.args.literals.now)

pub overflow_add-here : goal.overflow_add-here
overflow_add-here c = omega (arith, few_literals c.args.literals.now)

pub add_under-requires-clause-light : goal.add_under-requires-clause-light
add_under-requires-clause-light c =
    let there = slice_get_read c.args.literals.now (length c.args.literals.now) c.loop-at.at c.index-literals-at.result (λ i. length c.args.literals.now) c.loop-at-test.true c.index-literals-at.is in
    subst (λ (ts : List Term). sum (map term_weight ts) ≤ 10000) (sym (c.as_slice-args.ensures ∙ ap (λ (l : Literal). l.args) (sym c.index-literals-at.is))) (light_literal c.args.literals.now c.loop-at.at c.index-literals-at.result there c.requires.light)

pub loop-at-preserved : goal.loop-at-preserved
loop-at-preserved c =
    let there = slice_get_read c.args.literals.now (length c.args.literals.now) c.loop-at.at c.index-literals-at.result (λ i. length c.args.literals.now) c.loop-at-test.true c.index-literals-at.is in
    let spot = record c.args.spot { into_lit = c.loop-at.at + 1 } in
    goes_on pair_numbers c.args.limit (IsWithTarget c.args.source.now c.args.spot c.args.literals.now) (targets_rise c.args.source.now c.args.spot c.args.literals.now)
    c.loop-at.at c.args.sites.now c.loop-at.sites c.add_under.new.sites c.loop-at.invariant
    (at_target c.args.limit c.args.source.now c.args.spot c.args.literals.now c.loop-at.at c.index-literals-at.result there c.loop-at.sites c.add_under.new.sites
    (subst (λ (p : List ℕ). Extends pair_numbers (IsUnder c.args.source.now spot p c.index-literals-at.result.args) c.args.limit c.loop-at.sites c.add_under.new.sites) c.new-path.ensures
    (subst (λ (ts : List Term). Extends pair_numbers (IsUnder c.args.source.now spot c.new-path.result ts) c.args.limit c.loop-at.sites c.add_under.new.sites)
    (c.as_slice-args.ensures ∙ ap (λ (l : Literal). l.args) (sym c.index-literals-at.is)) c.in_ok-add_under.ensures.sites)))
