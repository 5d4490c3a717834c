use Rattle.std.proofs.Common.{sym, length, rules}
use Rattle.std.proofs.lemmas.Bool.{eqb-true}
use Rattle.std.proofs.lemmas.List.{nil_from_length}
use Rattle.sc_text_section.proofs.Sequences.{gives_err}
use Rattle.sc_text_run_rules.specs.RunValue.{run_value}
use Rattle.sc_text_run_rules.specs.RunSection.{run_section}
use Rattle.sc_text_run_section.specs.Seen.{clipped_run}
use Rattle.sc_text_run_section.proofs.OneRun.{alone_fails, alone_seen}
use Rattle.sc_text_run_section.proofs.run.read_run_section.Goals as goal

pub returns-in_err-run-clause-value : goal.returns-in_err-run-clause-value
returns-in_err-run-clause-value c =
    gives_err _ _ c.in_err-run.field-0.0 _ (search rules) (alone_fails clipped_run (run_section c.args.sig.now c.args.tokens.now) c.in_err-run.field-0.0 c.in_err-run.ensures.value)

pub returns-then-is_empty-clause-value : goal.returns-then-is_empty-clause-value
returns-then-is_empty-clause-value c =
    alone_seen clipped_run (run_section c.args.sig.now c.args.tokens.now) (run_value c.in_ok-run.run') c.in_ok-run.rest.now c.in_ok-run.ensures.value
    (nil_from_length c.in_ok-run.rest.now (eqb-true (length c.in_ok-run.rest.now) 0 (sym c.if-is_empty.ensures)))
