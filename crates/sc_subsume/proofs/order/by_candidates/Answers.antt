use Rattle.std.proofs.Common.{◌∙◌, subst}
use Rattle.std.proofs.lemmas.List.{take_all}
use Rattle.std.proofs.lemmas.List.Sorted.{IsPermutation-map}
use Rattle.std.specs.List.Sorted.{IsPermutation}
use Rattle.sc_subsume.specs.declared.order.Asked.{Asked}
use Rattle.sc_subsume.specs.Search.{literals}
use Rattle.sc_subsume.proofs.order.by_candidates.Goals as goal

pub returns : goal.returns
returns c =
    let now = c.sort_by_key.new.self.items in
    subst (λ ls. IsPermutation ls (literals now)) (c.loop-literal.invariant ∙ take_all c.loop-literal.literal-index c.args.c.now c.loop-literal-test.false)
    (IsPermutation-map (λ (one : Asked). one.literal.now) c.loop-literal.asked.items now c.sort_by_key.ensures.permutation)
