use Rattle.std.proofs.Common.{◌≡◌, ◌∙◌, sym, ap, subst, map, sum, Option, None, Some}
use Rattle.sc_term.specs.Term.{largest}
use Rattle.sc_term.specs.Clause.{literal_weight, literal_depth}
use Rattle.sc_term.specs.Substitution.{clause_under, literal_under}
use Rattle.sc_unify.specs.Bindings.{bindings, finished}
use Rattle.sc_unify.specs.Limits.{Spends}
use Rattle.sc_unify.proofs.JointRows.{over, spent}
use Rattle.sc_unify.proofs.joint.spend_clauses.Goals as goal

pub returns-in-None : goal.returns-in-None
returns-in-None c =
    let s = finished (bindings c.args.bound.now) in
    over literal_weight literal_depth (clause_under s) c.args.clauses.now c.loop-c.c-index c.c-item.result c.loop-c-test.true c.c-item.is c.args.weight 256 c.loop-c.left c.loop-c.invariant.0
    (subst (λ ls. Spends c.loop-c.left 256 (sum (map literal_weight (map (literal_under s) ls))) (largest (map literal_depth (map (literal_under s) ls))) None) c.as_slice.ensures c.in-None.ensures)

pub loop-c-preserved : goal.loop-c-preserved
loop-c-preserved c =
    let s = finished (bindings c.args.bound.now) in
    spent literal_weight literal_depth (clause_under s) c.args.clauses.now c.loop-c.c-index c.c-item.result c.loop-c-test.true c.c-item.is c.args.weight 256 c.loop-c.left c.loop-c.invariant.0 c.in-Some.rest c.loop-c.invariant.1
    (subst (λ ls. Spends c.loop-c.left 256 (sum (map literal_weight (map (literal_under s) ls))) (largest (map literal_depth (map (literal_under s) ls))) (Some c.in-Some.rest)) c.as_slice.ensures c.in-Some.ensures)
