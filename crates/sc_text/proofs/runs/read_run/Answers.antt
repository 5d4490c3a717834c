use Rattle.std.proofs.Common.{rules}
use Rattle.sc_text_run_rules.specs.RunValue.{run_value}
use Rattle.sc_text.proofs.RunLaws.{run_is}
use Rattle.sc_text.proofs.runs.read_run.Goals as goal

pub returns-clause-ok : goal.returns-clause-ok
returns-clause-ok c = run_is c.args.sig.now c.args.bytes.now c.args.from (run_value c.in_ok-run.run') c.in_ok-run.field-0-1 (search rules)
