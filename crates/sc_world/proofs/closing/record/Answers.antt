use Rattle.std.proofs.Common.{◌∙◌}
use Rattle.sc_world.proofs.BesideLaws.{is_beside}
use Rattle.sc_world.proofs.closing.record.Goals as goal

pub returns-clause-recorded : goal.returns-clause-recorded
returns-clause-recorded c = λ plan found.
    is_beside c.args.problem.now plan c.args.prover.now c.requires.same c.keeps.ensures.problem (c.keeps.ensures.reached c.requires.whole) c.args.outcome c.requires.ended
    c.in_ok-run.run' c.in_ok-told.told.0 c.in_ok-told.told.1 _ c.in_ok-told.ensures
    c.in_ok-run.ensures.ratio c.in_ok-run.ensures.lists c.in_ok-run.ensures.given c.in_ok-run.ensures.kept (c.in_ok-run.ensures.ends ∙ c.in_ok-ends.ensures) c.in_ok-run.ensures.outcome
    c.in_ok-run.ensures.proof c.in_ok-run.ensures.marks found
