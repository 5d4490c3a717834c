use Rattle.sc_term.specs.Term.{term_variables}
use Rattle.sc_term.proofs.Occurrences.{noted-more}
use Rattle.sc_term.proofs.first_occurrence.+noting.Goals as goal

pub note_terms-loop-term-preserved : goal.note_terms-loop-term-preserved
note_terms-loop-term-preserved t c =
    noted-more term_variables c.args.terms.now c.loop-term.term-index c.term-item.result c.args.order.now.items c.loop-term.order.items c.note_term.new.order.items
    c.loop-term-test.true c.term-item.is c.loop-term.invariant c.in_ok-note_term.ensures
