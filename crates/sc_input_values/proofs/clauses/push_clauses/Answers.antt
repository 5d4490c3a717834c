use Rattle.std.proofs.Common.{◌∙◌, ap}
use Rattle.sc_input_rules.specs.Numbering.{clause_of}
use Rattle.sc_input_values.proofs.LoopLaws.{push_turn}
use Rattle.sc_input_values.proofs.clauses.push_clauses.Goals as goal

pub loop-clause-preserved : goal.loop-clause-preserved
loop-clause-preserved c =
    let symbols = c.args.sig.now in
    push_turn (clause_of symbols) c.args.clauses.now c.args.written.now c.loop-clause.clause-index c.clause-item.result c.loop-clause.clauses c.push.new.self c.in_ok-clause_from.field-0
    c.loop-clause.invariant c.in_ok-push.ensures.ok (c.in_ok-clause_from.ensures ∙ ap (clause_of symbols) c.as_slice.ensures) c.loop-clause-test.true c.clause-item.is
