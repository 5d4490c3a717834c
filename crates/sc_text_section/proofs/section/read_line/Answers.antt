use Rattle.std.proofs.Common.{rules}
use Rattle.sc_text_section.proofs.Sequences.{gives_err}
use Rattle.sc_text_section.proofs.LinesInTurn.{step_fails, colon_fails, clause_fails, line_made}
use Rattle.sc_text_section.proofs.section.read_line.Goals as goal

pub returns-in_err-step : goal.returns-in_err-step
returns-in_err-step c =
    gives_err _ _ c.in_err-step.field-0.0 _ (search rules)
    (step_fails c.args.sig.now c.args.number c.args.number c.args.tokens.now c.in_ok-rest.rest.now c.in_ok-rest.rest.now c.in_ok-rest.rest.now c.in_ok-rest.ensures c.in_err-step.field-0.0 c.in_err-step.ensures)

pub returns-in_err-rest-2 : goal.returns-in_err-rest-2
returns-in_err-rest-2 c =
    gives_err _ _ c.in_err-rest-2.field-0.0 _ (search rules)
    (colon_fails c.args.sig.now c.args.number c.args.number c.args.tokens.now c.in_ok-rest.rest.now c.in_ok-step.rest.now c.in_ok-step.rest.now c.in_ok-rest.ensures c.in_err-rest-2.field-0.0
    c.in_ok-step.step c.in_ok-step.ensures c.in_err-rest-2.ensures)

pub returns-in_err-clause : goal.returns-in_err-clause
returns-in_err-clause c =
    gives_err _ _ c.in_err-clause.field-0.0 _ (search rules)
    (clause_fails c.args.sig.now c.args.number c.args.number c.args.tokens.now c.in_ok-rest.rest.now c.in_ok-step.rest.now c.in_ok-rest-2.rest.now c.in_ok-rest.ensures c.in_err-clause.field-0.0
    c.in_ok-step.step c.in_ok-step.ensures c.in_ok-rest-2.ensures c.in_err-clause.ensures)

pub returns : goal.returns
returns c =
    line_made c.args.sig.now c.args.number c.args.number c.args.tokens.now c.in_ok-rest.rest.now c.in_ok-step.rest.now c.in_ok-rest-2.rest.now c.in_ok-rest.ensures
    c.in_ok-step.step c.in_ok-clause.clause c.in_ok-clause.rest.now c.in_ok-step.ensures c.in_ok-rest-2.ensures c.in_ok-clause.ensures
