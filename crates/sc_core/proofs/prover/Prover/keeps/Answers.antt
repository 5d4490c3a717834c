use Rattle.std.proofs.Common.{ap, subst, ◌∙◌}
use Rattle.sc_input_rules.specs.WellFormed.{IsProblem}
use Rattle.sc_core.specs.Counts.{IsCounted}
use Rattle.sc_core.specs.State.{ProverState}
use Rattle.sc_core.specs.Turning.{run_of}
use Rattle.sc_core.proofs.ProverLaws.{reached_counted}
use Rattle.sc_core.proofs.prover.Prover.keeps.Goals as goal

pub returns-clause-problem : goal.returns-clause-problem
returns-clause-problem c = subst (λ (s : ProverState). IsProblem s.problem) c.self.view_is c.keeps.ensures.problem

pub returns-clause-counted : goal.returns-clause-counted
returns-clause-counted c whole =
    let running = c.self.inside.running in
    subst (λ (s : ProverState). IsCounted s.problem s.run) c.self.view_is
    (reached_counted running.book.problem c.self.inside.guide.seen (run_of running) (c.self.invariant.reached (ap (λ (s : ProverState). s.whole) c.self.view_is ∙ whole)))
