use Rattle.sc_text_run_rules.specs.RunValue.{run_value}
use Rattle.sc_top.proofs.ProveLaws.{recorded_beside}
use Rattle.sc_top.proofs.runs.run_beside.Goals as goal

pub returns-clause-decided : goal.returns-clause-decided
returns-clause-decided g c = λ bytes e.
    c.in_ok-answer.ensures.decided c.args.plan.now bytes
    (recorded_beside c.args.problem.now c.args.plan.now c.in_ok-beside.beside.ended.shelves (run_value c.in_ok-beside.beside.ended.run) c.requires.some
    c.in_ok-beside.ensures.recorded) e
