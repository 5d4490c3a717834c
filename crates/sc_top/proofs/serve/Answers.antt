use Rattle.sc_top.proofs.ToldLaws.{answered, cut_short, decided, told, read_fault, no_read_fault}
use Rattle.sc_top.proofs.serve.Goals as goal

pub returns-clause-decided : goal.returns-clause-decided
returns-clause-decided g c = λ six.
    decided c.args.command _ _ _ _ _ _ _ c.judge_on_threads-answer.result c.judge_on_threads-answer.ensures.stands (c.write_answer.ensures.whole six)

pub returns-clause-told : goal.returns-clause-told
returns-clause-told g c = λ five six seven.
    told c.args.command _ _ _ _ _ _ _ c.judge_on_threads-answer.result five seven c.judge_on_threads-answer.ensures.stands (c.write_answer.ensures.whole six)

pub returns-clause-answered : goal.returns-clause-answered
returns-clause-answered g c = λ six.
    answered c.args.command _ _ _ _ _ _ _ c.judge_on_threads-answer.result c.judge_on_threads-answer.ensures.stands (c.write_answer.ensures.whole six)

pub returns-clause-read_fault : goal.returns-clause-read_fault
returns-clause-read_fault g c =
    read_fault c.args.command _ _ _ _ c.judge_on_threads-answer.result c.judge_on_threads-answer.ensures.stands c.write_answer.ensures.status

pub returns-clause-quiet : goal.returns-clause-quiet
returns-clause-quiet g c = λ five six.
    c.judge_on_threads-answer.ensures.quiet (no_read_fault _ c.judge_on_threads-answer.result c.write_answer.ensures.status c.write_answer.ensures.memory five six)

pub returns-clause-cut_short : goal.returns-clause-cut_short
returns-clause-cut_short g c = λ six.
    cut_short c.args.command _ _ _ _ _ c.judge_on_threads-answer.result c.judge_on_threads-answer.ensures.stands (c.write_answer.ensures.part six)
