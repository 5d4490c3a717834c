use Rattle.std.proofs.Common.{◌∙◌}
use Rattle.sc_world.proofs.RecordLaws.{is_record}
use Rattle.sc_world.proofs.record.record.Goals as goal

pub returns : goal.returns
returns c = λ plan h.
    is_record c.args.problem.now plan c.args.prover.now c.args.chooser.now h c.keeps.ensures.problem c.keeps.ensures.reached c.args.outcome c.requires.ended
    c.in_ok-run.run' c.in_ok-told.told.0 c.in_ok-told.told.1 c.in_ok-told.ensures
    c.in_ok-run.ensures.ratio c.in_ok-run.ensures.lists c.in_ok-run.ensures.given c.in_ok-run.ensures.kept
    (c.in_ok-ends.ensures.0, c.in_ok-ends.ensures.1, c.in_ok-run.ensures.ends ∙ c.in_ok-ends.ensures.2) c.in_ok-run.ensures.outcome
    c.in_ok-run.ensures.proof c.in_ok-run.ensures.marks
