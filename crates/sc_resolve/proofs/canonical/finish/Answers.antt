use Rattle.std.proofs.Common.{arith, sym, ◌∙◌, ap, List, ℕ, length, true≢false, subst, ◌≡◌, Some}
use Rattle.sc_term.specs.declared.Clause.{Clause}
use Rattle.sc_term.specs.declared.Step.TheVariants.{Instance}
use Rattle.sc_term.specs.Clause.{variables, firsts, counting_from, IsWithinLimits}
use Rattle.sc_resolve.specs.Lines.{IsAdded}
use Rattle.sc_resolve.proofs.KeptLaws.{few_variables}
use Rattle.sc_resolve.proofs.LineLaws.{last_is}
use Rattle.sc_resolve.proofs.CanonicalLaws.{noted_so, ends_so, ends_with, canonical_within}
use Rattle.sc_resolve.proofs.canonical.finish.Goals as goal

pub returns-then-is_counting : goal.returns-then-is_counting
returns-then-is_counting c =
    ends_so c.args.lines c.args.clause c.as_slice.result.now c.requires.ends
    (noted_so c.args.clause c.new-order.result.items c.as_slice.result.now c.new-order.ensures.items (c.as_slice.ensures.value ∙ c.in_ok-note_variables.ensures)) (c.is_counting.ensures.0 c.if-is_counting.true)

pub numbering-requires : goal.numbering-requires
numbering-requires c =
    let order = noted_so c.args.clause c.new-order.result.items c.as_slice-2.result.now c.new-order.ensures.items (c.as_slice-2.ensures.value ∙ c.in_ok-note_variables.ensures) in
    omega (arith, ap (λ (l : List ℕ). length l) order, few_variables c.args.clause c.requires.within)

pub invariant_of-result-2 : goal.invariant_of-result-2
invariant_of-result-2 c =
    let within = subst IsWithinLimits (sym c.in_ok-last.ensures) (canonical_within c.args.clause c.requires.within) in
    record {
      ends = last_is c.args.lines (Instance c.len-of.result c.in_ok-terms.terms) c.in_ok-line.line c.add_line.new.lines c.in_ok-add_line.field-0 c.in_ok-add_line.ensures ∙ ap (λ (d : Clause). Some d) c.in_ok-line.ensures;
      light = within.light;
      shallow = within.shallow;
    }

pub returns : goal.returns
returns c =
    let order : c.as_slice-2.result.now ≡ firsts (variables c.args.clause) = noted_so c.args.clause c.new-order.result.items c.as_slice-2.result.now c.new-order.ensures.items (c.as_slice-2.ensures.value ∙ c.in_ok-note_variables.ensures) in
    let first : c.as_slice.result.now ≡ c.as_slice-2.result.now = c.as_slice.ensures.value ∙ sym c.as_slice-2.ensures.value in
    ends_with c.args.lines c.args.clause c.as_slice-2.result.now c.in_ok-terms.terms c.add_line.new.lines c.in_ok-add_line.field-0 c.requires.ends order
    (λ h. true≢false (sym (c.is_counting.ensures.1 (subst (λ (l : List ℕ). l ≡ counting_from 0 l) (sym first) h)) ∙ c.if-is_counting.false))
    (c.in_ok-terms.ensures.many ∙ c.full_width.ensures)
    (λ n less. c.in_ok-terms.ensures.each n (omega (arith, c.full_width.ensures)))
    (subst (λ (d : Clause). IsAdded c.args.lines (Instance (length c.args.lines) c.in_ok-terms.terms) d c.add_line.new.lines c.in_ok-add_line.field-0) (c.in_ok-line.ensures ∙ c.in_ok-last.ensures)
    (subst (λ n. IsAdded c.args.lines (Instance n c.in_ok-terms.terms) c.in_ok-line.line c.add_line.new.lines c.in_ok-add_line.field-0) c.len-of.ensures c.in_ok-add_line.ensures))
