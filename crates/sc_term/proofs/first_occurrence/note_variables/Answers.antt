use Rattle.std.proofs.Common.{◌≡◌, ◌∙◌, ap, map}
use Rattle.sc_term.specs.Term.{joined, term_variables}
use Rattle.sc_term.specs.Occurrence.{noted, literal_variables}
use Rattle.sc_term.proofs.Occurrences.{noted-more}
use Rattle.sc_term.proofs.first_occurrence.note_variables.Goals as goal

pub loop-literal-preserved : goal.loop-literal-preserved
loop-literal-preserved c =
    noted-more literal_variables c.as_slice-literal-items.result.now c.loop-literal.literal-index c.literal-item.result c.args.order.now.items c.loop-literal.order.items c.note_terms.new.order.items
    c.loop-literal-test.true c.literal-item.is c.loop-literal.invariant
    (c.in_ok-note_terms.ensures ∙ ap (λ ts. noted c.loop-literal.order.items (joined (map term_variables ts))) c.as_slice.ensures)
