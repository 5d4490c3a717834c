use Rattle.std.proofs.Common.{◌≡◌, ◌∙◌, ap, subst, ◌+◌, length, List, [], ◌∷◌, ◌++◌, ℕ, arith}
use Rattle.std.proofs.lemmas.Result.{on_ok_weaker}
use Rattle.std.proofs.lemmas.Option.{slice_get_read}
use Rattle.sc_term.specs.declared.Term.{Term}
use Rattle.sc_term.specs.Term.{term_weight, term_depth}
use Rattle.sc_term.proofs.Occurrences.{at-most-largest}
use Rattle.sc_resolve.specs.Extending.{Extends}
use Rattle.sc_resolve.proofs.Extending.{goes_on, stops}
use Rattle.sc_para.specs.Spots.{pair_numbers}
use Rattle.sc_para.specs.Subterms.{IsHere, IsWithin, IsUnder, IsWithinArgument}
use Rattle.sc_para.proofs.WalkLaws.{arguments_rise, at_argument, all_under, within_compound, few_terms, one_of_sum, popped}
use Rattle.sc_para.proofs.subterms.+walk.Goals as goal

pub add_under-returns-then-len-limit-clause-sites : goal.add_under-returns-then-len-limit-clause-sites
add_under-returns-then-len-limit-clause-sites t c =
    let args = c.args.args.now in
    let here = c.args.path.now in
    let source = c.args.source.now in
    all_under source c.args.spot c.args.limit here args (length args) (λ i. length args) c.args.sites.now c.loop-at.sites
    (stops pair_numbers c.args.limit (IsWithinArgument source c.args.spot here args) (arguments_rise source c.args.spot here args)
    c.loop-at.at (length args) c.args.sites.now c.loop-at.sites c.loop-at.invariant.sites (omega arith) (omega arith))

pub add_under-overflow_cast-at : goal.add_under-overflow_cast-at
add_under-overflow_cast-at t c = omega (arith, few_terms c.args.args.now)

pub add_under-overflow_add-at : goal.add_under-overflow_add-at
add_under-overflow_add-at t c = omega (arith, few_terms c.args.args.now)

pub add_under-add_within-requires : goal.add_under-add_within-requires
add_under-add_within-requires t c =
    let args = c.args.args.now in
    let there = slice_get_read args (length args) c.loop-at.at c.index-args-at.result (λ i. length args) c.loop-at-test.true c.index-args-at.is in
    let shallow = at-most-largest term_depth args c.loop-at.at c.index-args-at.result c.loop-at-test.true c.index-args-at.is in
    (omega (arith, shallow, c.decreases), (c.requires.headed, omega (arith, one_of_sum term_weight args c.loop-at.at c.index-args-at.result there)))

pub add_under-loop-at-preserved : goal.add_under-loop-at-preserved
add_under-loop-at-preserved t c =
    let args = c.args.args.now in
    let here = c.args.path.now in
    let source = c.args.source.now in
    let there = slice_get_read args (length args) c.loop-at.at c.index-args-at.result (λ i. length args) c.loop-at-test.true c.index-args-at.is in
    let longer : c.push.new.self ≡ here ++ (c.loop-at.at + 1) ∷ [] = c.in_ok-push.ensures.ok ∙ ap (λ (p : List ℕ). p ++ (c.loop-at.at + 1) ∷ []) c.loop-at.invariant.path in
    record {
      sites = goes_on pair_numbers c.args.limit (IsWithinArgument source c.args.spot here args) (arguments_rise source c.args.spot here args)
          c.loop-at.at c.args.sites.now c.loop-at.sites c.add_within.new.sites c.loop-at.invariant.sites
          (at_argument source c.args.spot c.args.limit here args c.loop-at.at c.index-args-at.result there c.loop-at.sites c.add_within.new.sites
          (subst (λ (p : List ℕ). Extends pair_numbers (IsWithin source c.args.spot p c.index-args-at.result) c.args.limit c.loop-at.sites c.add_within.new.sites) longer c.in_ok-add_within.ensures.sites));
      path = popped c.pop.result here c.add_within.new.path c.pop.new.self (c.loop-at.at + 1) (c.in_ok-add_within.ensures.path ∙ longer) c.pop.ensures;
    }

pub add_under-returns-clause-sites : goal.add_under-returns-clause-sites
add_under-returns-clause-sites t c =
    all_under c.args.source.now c.args.spot c.args.limit c.args.path.now c.args.args.now c.loop-at.at (omega arith) c.args.sites.now c.loop-at.sites c.loop-at.invariant.sites

pub add_within-returns-in_ok-add_here-in-App-clause-sites : goal.add_within-returns-in_ok-add_here-in-App-clause-sites
add_within-returns-in_ok-add_here-in-App-clause-sites t c =
    let here = c.args.path.now in
    let source = c.args.source.now in
    on_ok_weaker c.add_under.result
    (λ under. within_compound source c.args.spot c.args.limit here c.args.t.now c.in-App.field-0 c.in-App.args c.in-App.is c.args.sites.now c.add_here.new.sites c.add_under.new.sites
    (subst (λ (p : List ℕ). Extends pair_numbers (IsHere source c.args.spot p c.args.t.now) c.args.limit c.args.sites.now c.add_here.new.sites) c.as_slice.ensures c.in_ok-add_here-in-App.ensures)
    (subst (λ (ts : List Term). Extends pair_numbers (IsUnder source c.args.spot here ts) c.args.limit c.add_here.new.sites c.add_under.new.sites) c.as_slice-in-App.ensures under))
    c.add_under.ensures.sites
