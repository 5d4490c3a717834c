use Rattle.std.proofs.Common.{◌≡◌, ◌∙◌, sym, ap, subst, List, arith}
use Rattle.sc_term.specs.declared.symbol.Symbol.{Symbol}
use Rattle.sc_input_rules.specs.Problem.{Stated}
use Rattle.sc_core_rules.specs.Start.{Starts}
use Rattle.sc_core_rules.specs.Run.{started}
use Rattle.sc_keep.specs.State.{State}
use Rattle.sc_interp.specs.Versions.{opening}
use Rattle.sc_mark.specs.Marked.{unmarked}
use Rattle.sc_guide.specs.Guided.{Guided}
use Rattle.sc_core.specs.declared.turning.Running.{Running}
use Rattle.sc_core.specs.Turning.{run_of}
use Rattle.sc_core.proofs.MarkLaws.{unmarked_right}
use Rattle.sc_core.proofs.ProverLaws.{start_reached, lists_seen}
use Rattle.sc_core.proofs.prover.Prover.new.Goals as goal

pub invariant_of-result : goal.invariant_of-result
invariant_of-result c =
    let running : Running = record { book = c.start.new.self; given = c.new-4.result; ended = c.ended_by-ended.result; goal = c.in_ok-goal.goal } in
    let guide = c.in_ok-guide.guide in
    let problem : c.start.new.self.problem ≡ c.args.problem.now = c.in_ok-goal.ensures.problem ∙ ap (λ (s : State). s.problem) c.in_ok-book.ensures in
    let starts : Starts c.start.new.self.problem c.start.new.self.book c.in_ok-goal.goal =
    subst (λ (p : Stated). Starts p c.start.new.self.book c.in_ok-goal.goal) (sym c.in_ok-goal.ensures.problem) c.in_ok-goal.ensures.starts in
    let run : run_of running ≡ started c.start.new.self.book c.in_ok-goal.goal =
    λ i. record { book = c.start.new.self.book; given = c.new-4.ensures i; ended = c.ended_by-ended.ensures i; goal = c.in_ok-goal.goal } in
    let symbols = c.sig-symbols.ensures ∙ sym (ap (λ (p : Stated). p.symbols) problem) in
    let seen = lists_seen c.sig-symbols.result.now c.args.lists guide c.in_ok-guide.ensures in
    record {
      opens = ap (λ (g : Guided). g.opening_version) c.in_ok-guide.ensures ∙ ap (λ (names : List Symbol). opening names) symbols;
      some = (let some = c.requires.some in omega (arith, seen, some));
      few = (let few = c.requires.few in omega (arith, seen, few));
      book = λ _. c.in_ok-goal.ensures.whole;
      reached = λ _. start_reached c.start.new.self.problem guide.seen c.start.new.self.book c.in_ok-goal.goal (run_of running) starts run;
      marked = λ _. unmarked_right c.start.new.self.problem guide.seen c.start.new.self.book c.in_ok-marks.marks
          (c.in_ok-marks.ensures ∙ ap (λ (names : List Symbol). unmarked names) symbols);
    }
