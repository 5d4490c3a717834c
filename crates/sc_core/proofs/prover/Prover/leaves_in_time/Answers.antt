use Rattle.std.proofs.Common.{ap, subst, ◌∙◌}
use Rattle.sc_core.specs.State.{ProverState, LeaveInTimeSoFar}
use Rattle.sc_core.specs.Turning.{run_of}
use Rattle.sc_core.proofs.ProverLaws.{reached_leaves}
use Rattle.sc_core.proofs.prover.Prover.leaves_in_time.Goals as goal

pub returns : goal.returns
returns c whole =
    let running = c.self.inside.running in
    subst (λ (s : ProverState). LeaveInTimeSoFar s.problem s.seen s.run) c.self.view_is
    (reached_leaves running.book.problem c.self.inside.guide.seen (run_of running) (c.self.invariant.reached (ap (λ (s : ProverState). s.whole) c.self.view_is ∙ whole)) c.clauses_leave_in_time.ensures)
