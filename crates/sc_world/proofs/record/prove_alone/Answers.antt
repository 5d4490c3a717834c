use Rattle.std.proofs.Common.{sym, subst}
use Rattle.sc_core_rules.specs.Selection.{Seen}
use Rattle.sc_text_run_rules.specs.declared.run.RunText.{RunText}
use Rattle.sc_text_run_rules.specs.RunValue.{run_value}
use Rattle.sc_world.specs.Recorded.{IsRecord}
use Rattle.sc_world.proofs.record.prove_alone.Goals as goal

pub returns : goal.returns
returns c =
    let prover = c.with_finder.new.prover in
    subst (λ (shelves : Seen). IsRecord c.args.problem.now c.args.plan.now shelves (run_value c.with_shelves.result.run)) (sym c.with_shelves.ensures.shelves)
    (subst (λ (run : RunText). IsRecord c.args.problem.now c.args.plan.now prover.seen (run_value run)) (sym c.with_shelves.ensures.run) c.in_ok-run.ensures)
