use Rattle.std.proofs.Common.{ap, sym, subst, ◌∙◌}
use Rattle.sc_input_rules.specs.Problem.{Stated}
use Rattle.sc_interp.specs.Versions.{opening}
use Rattle.sc_core.specs.State.{ProverState, IsReached}
use Rattle.sc_core.specs.Marking.{AreRight}
use Rattle.sc_core.specs.Turning.{run_of}
use Rattle.sc_core.proofs.ProverLaws.{reached_counted, turn_reached}
use Rattle.sc_core.proofs.prover.Prover.turn.Goals as goal

pub turn-requires-clause-counted : goal.turn-requires-clause-counted
turn-requires-clause-counted c =
    let running = c.self.inside.running in
    reached_counted running.book.problem c.self.inside.guide.seen (run_of running) (c.self.invariant.reached (ap (λ (s : ProverState). s.whole) c.self.view_is ∙ c.requires.whole))

pub invariant_of-self : goal.invariant_of-self
invariant_of-self c =
    let seen = c.self.inside.guide.seen in
    let old = c.self.inside.running in
    let new = c.turn.new.running in
    let going = ap (λ (s : ProverState). s.run.ended) c.self.view_is ∙ c.requires.going in
    record {
      opens = c.self.invariant.opens ∙ sym (ap (λ (p : Stated). opening p.symbols) c.in-Ok.ensures.problem);
      some = c.self.invariant.some;
      few = c.self.invariant.few;
      book = λ whole. c.in-Ok.ensures.whole;
      reached = λ whole. subst (λ (p : Stated). IsReached p seen (run_of new)) (sym c.in-Ok.ensures.problem)
          (turn_reached old.book.problem seen (run_of old) (run_of new) (c.self.invariant.reached whole) going c.in-Ok.ensures.turns);
      marked = λ whole. subst (λ (p : Stated). AreRight p seen new.book.book c.turn.new.marks) (sym c.in-Ok.ensures.problem) c.in-Ok.ensures.right;
    }
