use Rattle.std.proofs.Common.{◌≡◌, ◌∙◌, sym, subst, ap, ℕ, List, true≢false}
use Rattle.sc_term.specs.Clause.{counting_from, variables}
use Rattle.sc_term.specs.Occurrence.{noted}
use Rattle.sc_term.proofs.Occurrences.{noted-firsts}
use Rattle.sc_keep.proofs.canonical.next_canonical.Goals as goal

pub returns-then-is_counting : goal.returns-then-is_counting
returns-then-is_counting c =
    let order = c.as_slice.ensures.value ∙ c.in_ok-note_variables.ensures ∙ ap (λ (ns : List ℕ). noted ns (variables c.args.c.now)) c.new-order.ensures.items ∙ noted-firsts (variables c.args.c.now) in
    subst (λ (ns : List ℕ). ns ≡ counting_from 0 ns) order (c.is_counting.ensures.0 c.if-is_counting.true)

pub canonical_line-requires-clause-order : goal.canonical_line-requires-clause-order
canonical_line-requires-clause-order c = c.as_slice-2.ensures.value ∙ c.in_ok-note_variables.ensures ∙ ap (λ (ns : List ℕ). noted ns (variables c.args.c.now)) c.new-order.ensures.items ∙ noted-firsts (variables c.args.c.now)

pub returns : goal.returns
returns c =
    let order = c.as_slice.ensures.value ∙ c.in_ok-note_variables.ensures ∙ ap (λ (ns : List ℕ). noted ns (variables c.args.c.now)) c.new-order.ensures.items ∙ noted-firsts (variables c.args.c.now) in
    (λ h. true≢false (sym (c.is_counting.ensures.1 (subst (λ (ns : List ℕ). ns ≡ counting_from 0 ns) (sym order) h)) ∙ c.if-is_counting.false), c.in_ok-line.ensures)
