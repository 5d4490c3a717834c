use Rattle.sc_core.specs.Finish.{finish_of}
use Rattle.sc_core.proofs.TurningLaws.{moves, moved_usable, worked_in}
use Rattle.sc_core.proofs.turning.give.Goals as goal

pub work_all-requires-clause-listed : goal.work_all-requires-clause-listed
work_all-requires-clause-listed c =
    let running = c.args.running.now in
    let moved = moves running.book.problem running.book.book c.give.new.self.book c.args.choice.given (c.keeps.ensures.sound c.requires.whole) c.requires.listed c.in_ok-give.ensures.given in
    moved_usable running.book.book c.give.new.self.book c.args.choice.given moved

pub returns-clause-given : goal.returns-clause-given
returns-clause-given c =
    let running = c.args.running.now in
    let finish = finish_of c.in_ok-finish.finish in
    let moved = moves running.book.problem running.book.book c.give.new.self.book c.args.choice.given (c.keeps.ensures.sound c.requires.whole) c.requires.listed c.in_ok-give.ensures.given in
    record {
      book = c.work_all.new.book.book;
      finish = finish;
      worked = worked_in running.book.problem c.give.new.self.problem c.args.turn c.args.choice.given _ c.give.new.self.book c.work_all.new.book.book finish c.in_ok-give.ensures.problem moved c.in_ok-finish.ensures.worked;
      goes_to = λ i. record {
        book = c.work_all.new.book.book;
        given = c.in_ok-push.ensures.ok i;
        ended = c.outcome_of-running.ensures i;
        goal = c.goal_of-running.ensures i;
      };
    }
