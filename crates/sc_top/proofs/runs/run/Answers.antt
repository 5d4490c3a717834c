use Rattle.sc_text_run_rules.specs.RunValue.{run_value}
use Rattle.sc_top.proofs.ProveLaws.{recorded_alone}
use Rattle.sc_top.proofs.runs.run.Goals as goal

pub returns-clause-decided : goal.returns-clause-decided
returns-clause-decided c = λ bytes e.
    c.in_ok-answer.ensures.decided c.args.plan.now bytes
    (recorded_alone c.args.problem.now c.args.plan.now c.in_ok-ended.ended.shelves (run_value c.in_ok-ended.ended.run) c.requires.alone c.in_ok-ended.ensures) e
