use Rattle.sc_term.specs.Term.{term_under, term_weight, term_depth}
use Rattle.sc_unify.specs.Bindings.{bindings, finished}
use Rattle.sc_unify.proofs.Rows.{over, spent}
use Rattle.sc_unify.proofs.limits.+spending.Goals as goal

pub spend_terms-returns-in-None : goal.spend_terms-returns-in-None
spend_terms-returns-in-None t c =
    over term_weight term_depth (term_under (finished (bindings c.args.bound.now))) c.args.terms.now c.loop-term.term-index c.term-item.result c.loop-term-test.true c.term-item.is
    c.args.weight c.args.depth c.loop-term.left c.loop-term.invariant.0 c.in-None.ensures

pub spend_terms-loop-term-preserved : goal.spend_terms-loop-term-preserved
spend_terms-loop-term-preserved t c =
    spent term_weight term_depth (term_under (finished (bindings c.args.bound.now))) c.args.terms.now c.loop-term.term-index c.term-item.result c.loop-term-test.true c.term-item.is
    c.args.weight c.args.depth c.loop-term.left c.loop-term.invariant.0 c.in-Some.rest c.loop-term.invariant.1 c.in-Some.ensures
