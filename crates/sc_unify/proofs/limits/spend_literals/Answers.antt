use Rattle.sc_term.specs.Clause.{literal_weight, literal_depth}
use Rattle.sc_term.specs.Substitution.{literal_under}
use Rattle.sc_unify.specs.Bindings.{bindings, finished}
use Rattle.sc_unify.proofs.Rows.{over}
use Rattle.sc_unify.proofs.limits.spend_literals.Goals as goal

pub returns-in-None : goal.returns-in-None
returns-in-None c =
    over literal_weight literal_depth (literal_under (finished (bindings c.args.bound.now))) c.args.literals.now c.loop-literal.literal-index c.literal-item.result c.loop-literal-test.true c.literal-item.is
    c.args.weight 256 c.loop-literal.left c.loop-literal.invariant.0 c.in-None.ensures
