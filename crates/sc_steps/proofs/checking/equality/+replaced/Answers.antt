use Rattle.sc_steps.proofs.EqualityChecks.{replaced_where}
use Rattle.sc_steps.proofs.checking.equality.+replaced.Goals as goal

pub is_replaced-returns-in-Some-changed_argument : goal.is_replaced-returns-in-Some-changed_argument
is_replaced-returns-in-Some-changed_argument t c =
    replaced_where c.args.args.now c.args.path.now c.in-Some.n.now c.in-Some.rest.now c.args.s.now c.args.t.now c.args.all.now
    c.in-Some-numbered.old.now c.in-Some-changed_argument.new.now c.is_term_replaced.result c.in-Some.ensures.cases.0 c.in-Some-numbered.ensures.value
    c.in-Some-changed_argument.ensures.found c.is_term_replaced.ensures
