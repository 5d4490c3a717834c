use Rattle.std.proofs.Common.{ap, subst, ◌∙◌}
use Rattle.sc_term.specs.Proof.{IsProof}
use Rattle.sc_term.specs.Refuted.{IsRefuted}
use Rattle.sc_core.specs.State.{ProverState}
use Rattle.sc_core.specs.Turning.{run_of}
use Rattle.sc_core.proofs.ProverLaws.{goal_there, reached_refutes, proof_has_goal}
use Rattle.sc_core.proofs.prover.Prover.proof.Goals as goal

pub proof-requires-clause-there : goal.proof-requires-clause-there
proof-requires-clause-there c =
    let running = c.self.inside.running in
    let reached = c.self.invariant.reached (ap (λ (s : ProverState). s.whole) c.self.view_is ∙ c.requires.whole) in
    (goal_there running.book.problem c.self.inside.guide.seen (run_of running) reached c.in-Some.goal c.keeps.ensures.problem c.in-Some.is).0

pub proof-requires-clause-within : goal.proof-requires-clause-within
proof-requires-clause-within c =
    let running = c.self.inside.running in
    let reached = c.self.invariant.reached (ap (λ (s : ProverState). s.whole) c.self.view_is ∙ c.requires.whole) in
    (goal_there running.book.problem c.self.inside.guide.seen (run_of running) reached c.in-Some.goal c.keeps.ensures.problem c.in-Some.is).1

pub returns-in_ok-lines-in-Some-clause-proof : goal.returns-in_ok-lines-in-Some-clause-proof
returns-in_ok-lines-in-Some-clause-proof c =
    let running = c.self.inside.running in
    let reached = c.self.invariant.reached (ap (λ (s : ProverState). s.whole) c.self.view_is ∙ c.requires.whole) in
    subst (λ (s : ProverState). IsProof s.problem.inputs c.in_ok-lines-in-Some.lines) c.self.view_is
    (reached_refutes running.book.problem c.self.inside.guide.seen (run_of running) reached c.in-Some.goal c.in_ok-lines-in-Some.lines c.keeps.ensures.problem c.in-Some.is c.in_ok-lines-in-Some.ensures.splice).0

pub returns-in_ok-lines-in-Some-clause-refuted : goal.returns-in_ok-lines-in-Some-clause-refuted
returns-in_ok-lines-in-Some-clause-refuted c =
    let running = c.self.inside.running in
    let reached = c.self.invariant.reached (ap (λ (s : ProverState). s.whole) c.self.view_is ∙ c.requires.whole) in
    subst (λ (s : ProverState). IsRefuted s.problem.inputs) c.self.view_is
    (reached_refutes running.book.problem c.self.inside.guide.seen (run_of running) reached c.in-Some.goal c.in_ok-lines-in-Some.lines c.keeps.ensures.problem c.in-Some.is c.in_ok-lines-in-Some.ensures.splice).1

pub returns-in-None-clause-splice : goal.returns-in-None-clause-splice
returns-in-None-clause-splice c =
    let running = c.self.inside.running in
    let reached = c.self.invariant.reached (ap (λ (s : ProverState). s.whole) c.self.view_is ∙ c.requires.whole) in
    absurd (proof_has_goal running.book.problem c.self.inside.guide.seen (run_of running) reached (ap (λ (s : ProverState). s.run.ended) c.self.view_is ∙ c.requires.ended) c.in-None.is)

pub returns-in-None-clause-proof : goal.returns-in-None-clause-proof
returns-in-None-clause-proof c =
    let running = c.self.inside.running in
    let reached = c.self.invariant.reached (ap (λ (s : ProverState). s.whole) c.self.view_is ∙ c.requires.whole) in
    absurd (proof_has_goal running.book.problem c.self.inside.guide.seen (run_of running) reached (ap (λ (s : ProverState). s.run.ended) c.self.view_is ∙ c.requires.ended) c.in-None.is)

pub returns-in-None-clause-refuted : goal.returns-in-None-clause-refuted
returns-in-None-clause-refuted c =
    let running = c.self.inside.running in
    let reached = c.self.invariant.reached (ap (λ (s : ProverState). s.whole) c.self.view_is ∙ c.requires.whole) in
    absurd (proof_has_goal running.book.problem c.self.inside.guide.seen (run_of running) reached (ap (λ (s : ProverState). s.run.ended) c.self.view_is ∙ c.requires.ended) c.in-None.is)
