use Rattle.std.proofs.Common.{◌≡◌, ◌∙◌, sym, subst, length, arith}
use Rattle.sc_core_rules.specs.Selection.{Seen}
use Rattle.sc_core_laws.specs.TrueRows.{IsFrontOf}
use Rattle.sc_core.specs.Turning.{run_of}
use Rattle.sc_core.proofs.MarkLaws.{grown_right}
use Rattle.sc_core.proofs.ProverLaws.{grown_reached}
use Rattle.sc_core.proofs.SeenLaws.{grown_front, as_many}
use Rattle.sc_core.proofs.prover.Prover.receive.Goals as goal

pub invariant_of-self-2 : goal.invariant_of-self-2
invariant_of-self-2 c =
    let running = c.self.inside.running in
    let old = c.self.inside.guide.seen in
    let new = c.receive.new.self.seen in
    let kept = c.self.invariant in
    let front : IsFrontOf new old = subst (λ (seen : Seen). IsFrontOf seen old) (sym c.in_ok-receive.ensures.seen) (grown_front old c.args.finder c.args.version) in
    let many : length new ≡ length old = as_many old new front in
    record {
      opens = c.in_ok-receive.ensures.opening ∙ kept.opens;
      some = (let some = kept.some in omega (arith, many, some));
      few = (let few = kept.few in omega (arith, many, few));
      book = kept.book;
      reached = λ whole. grown_reached running.book.problem old new (run_of running) front (kept.reached whole);
      marked = λ whole. grown_right running.book.problem old new running.book.book c.self.inside.marks front (kept.marked whole);
    }
