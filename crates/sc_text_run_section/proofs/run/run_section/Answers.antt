use Rattle.std.proofs.Common.{map, rules}
use Rattle.sc_text_section.proofs.Sequences.{gives_err}
use Rattle.sc_text_run_rules.specs.RunValue.{version_value}
use Rattle.sc_text_run_section.specs.Seen.{heading_of, turns_of, proof_of}
use Rattle.sc_text_run_section.proofs.OneRun.{heading_fails, lists_fail, turns_fail, proof_fails, end_fails, run_made}
use Rattle.sc_text_run_section.proofs.run.run_section.Goals as goal

pub returns-in_err-heading-clause-value : goal.returns-in_err-heading-clause-value
returns-in_err-heading-clause-value c =
    gives_err _ _ c.in_err-heading.field-0.0 _ (search rules) (heading_fails c.args.sig.now c.args.tokens.now c.in_err-heading.field-0.0 c.in_err-heading.ensures.value)

pub returns-in_err-lists-clause-value : goal.returns-in_err-lists-clause-value
returns-in_err-lists-clause-value c =
    gives_err _ _ c.in_err-lists.field-0.0 _ (search rules)
    (lists_fail c.args.sig.now c.args.tokens.now c.in_ok-heading.rest.now (heading_of c.in_ok-heading.heading) c.in_ok-heading.ensures.value c.in_err-lists.field-0.0 c.in_err-lists.ensures.value)

pub returns-in_err-turns-clause-value : goal.returns-in_err-turns-clause-value
returns-in_err-turns-clause-value c =
    gives_err _ _ c.in_err-turns.field-0.0 _ (search rules)
    (turns_fail c.args.sig.now c.args.tokens.now c.in_ok-heading.rest.now (heading_of c.in_ok-heading.heading) c.in_ok-heading.ensures.value (map (map version_value) c.in_ok-lists.lists) c.in_ok-lists.rest.now
    c.in_ok-lists.ensures.value c.in_err-turns.field-0.0 c.in_err-turns.ensures)

pub returns-in_err-proof-clause-value : goal.returns-in_err-proof-clause-value
returns-in_err-proof-clause-value c =
    gives_err _ _ c.in_err-proof.field-0.0 _ (search rules)
    (proof_fails c.args.sig.now c.args.tokens.now c.in_ok-heading.rest.now (heading_of c.in_ok-heading.heading) c.in_ok-heading.ensures.value (map (map version_value) c.in_ok-lists.lists) c.in_ok-lists.rest.now
    c.in_ok-lists.ensures.value (turns_of c.in_ok-turns.turns) c.in_ok-turns.rest.now c.in_ok-turns.ensures c.in_err-proof.field-0.0 c.in_err-proof.ensures)

pub returns-in_err-rest-clause-value : goal.returns-in_err-rest-clause-value
returns-in_err-rest-clause-value c =
    gives_err _ _ c.in_err-rest.field-0.0 _ (search rules)
    (end_fails c.args.sig.now c.args.tokens.now c.in_ok-heading.rest.now (heading_of c.in_ok-heading.heading) c.in_ok-heading.ensures.value (map (map version_value) c.in_ok-lists.lists) c.in_ok-lists.rest.now
    c.in_ok-lists.ensures.value (turns_of c.in_ok-turns.turns) c.in_ok-turns.rest.now c.in_ok-turns.ensures (proof_of c.in_ok-proof.proof) c.in_ok-proof.rest.now c.in_ok-proof.ensures
    c.in_err-rest.field-0.0 (search rules))

pub returns-clause-value : goal.returns-clause-value
returns-clause-value c =
    run_made c.args.sig.now c.args.tokens.now c.in_ok-heading.rest.now (heading_of c.in_ok-heading.heading) c.in_ok-heading.ensures.value (map (map version_value) c.in_ok-lists.lists) c.in_ok-lists.rest.now
    c.in_ok-lists.ensures.value (turns_of c.in_ok-turns.turns) c.in_ok-turns.rest.now c.in_ok-turns.ensures (proof_of c.in_ok-proof.proof) c.in_ok-proof.rest.now c.in_ok-proof.ensures
    c.in_ok-rest.rest.now (search rules)
