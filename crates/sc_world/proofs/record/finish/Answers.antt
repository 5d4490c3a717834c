use Rattle.std.proofs.Common.{subst}
use Rattle.sc_worker.specs.Choosing.{Choice}
use Rattle.sc_world.specs.Underway.{IsUnderway}
use Rattle.sc_world.proofs.record.finish.Goals as goal

pub returns : goal.returns
returns c = λ plan first.
    let prover = c.run_to_its_end.new.prover in
    let chooser = c.run_to_its_end.new.chooser in
    c.in_ok-run.ensures plan (subst (λ (choice : Choice). IsUnderway choice prover chooser) first c.in_ok-outcome.ensures.underway)
