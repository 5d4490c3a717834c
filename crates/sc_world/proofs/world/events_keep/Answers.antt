use Rattle.sc_world.proofs.WorldLaws.{after_right, holds}
use Rattle.sc_world.proofs.world.events_keep.Goals as goal

pub returns : goal.returns
returns c = λ problem finders events m such after.
    let right = after_right problem finders events m after in
    holds problem such c.rows_are_true.ensures c.clauses_leave_in_time.ensures c.run_refutes.ensures m right.0 right.1
