use Rattle.std.proofs.Common.{◌∙◌, subst, rules}
use Rattle.std.specs.Borrow.{Bor}
use Rattle.std.specs.List.Sorted.{IsPermutation}
use Rattle.std.proofs.lemmas.List.{take_all}
use Rattle.std.proofs.lemmas.List.Sorted.{IsPermutation-map, IsNonDecreasingBy-from_sort_by_key}
use Rattle.sc_term.specs.declared.Numbered.{Numbered}
use Rattle.sc_resolve.specs.ByNumber.{seen}
use Rattle.sc_resolve.proofs.OrderLaws.{seen_up, sorted_by_number}
use Rattle.sc_resolve.proofs.order.by_number.Goals as goal

pub returns : goal.returns
returns c =
    let now = c.sort_by_key.new.self.items in
    sorted_by_number c.args.clauses.now (seen now) c.requires.differ
    (subst (λ ls. IsPermutation ls (seen now)) (c.loop-clause.invariant ∙ take_all c.loop-clause.clause-index c.args.clauses.now c.loop-clause-test.false)
    (IsPermutation-map (λ (p : Bor Numbered). p.now) c.loop-clause.ordered.items now c.sort_by_key.ensures.permutation))
    (seen_up now (IsNonDecreasingBy-from_sort_by_key (λ p. p.now.number) _ c.in_ok-sort_by_key.ensures.sorted (λ a r q k. search rules)))
