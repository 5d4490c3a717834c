use Rattle.std.proofs.Common.{◌≡◌, ◌∙◌, ◌<◌, ◌≤◌, ◌^◌, List, sym, ap, subst, length, arith}
use Rattle.std.specs.Prelude.{All}
use Rattle.std.specs.List.{AllZip}
use Rattle.std.proofs.lemmas.List.{with_items_is}
use Rattle.sc_input_rules.specs.Problem.{Stated}
use Rattle.sc_shelf.specs.Entries.{StartsWith}
use Rattle.sc_shelf.specs.State.{WindowState}
use Rattle.sc_core_rules.specs.Selection.{Seen}
use Rattle.sc_text_run_rules.specs.RunValue.{run_value}
use Rattle.sc_world.specs.declared.actors.Actor.{Actor}
use Rattle.sc_world.specs.Abreast.{seen_of}
use Rattle.sc_world.specs.Acting.{AreOpened, HasRun, ends_of}
use Rattle.sc_world.specs.Beside.{AllFound, AreWindows}
use Rattle.sc_world.proofs.BesideLaws.{begins_abreast, same_problem, last_grown, all_few, all_found, are_windows}
use Rattle.sc_world.proofs.beside.open_and_run.Goals as goal

pub run_and_close-requires-clause-abreast : goal.run_and_close-requires-clause-abreast
run_and_close-requires-clause-abreast g c κs within =
    begins_abreast c.args.problem.now c.args.plan.now.finders c.args.prover.now _ _ c.requires.started c.in_ok-open_all.ensures.alike c.in_ok-open_all.ensures.new c.as_mut_slice-shelves.ensures.value

pub finish_beside-requires-clause-grown : goal.finish_beside-requires-clause-grown
finish_beside-requires-clause-grown g c =
    let us = c.run_and_close.new.windows in
    let shown = c.as_slice-2.ensures.value ∙ with_items_is c.open_all.new.windows us (omega (arith, c.run_and_close.auto.windows, c.as_mut_slice-shelves.ensures.len)) in
    subst (λ (l : List WindowState). AllZip StartsWith (seen_of l) c.run_and_close.new.prover.seen) (sym shown)
    (last_grown c.args.prover.now.problem c.args.plan.now c.in_ok-outcome.outcome c.run_and_close.new.prover _ _ us c.in_ok-outcome.ensures)

pub finish_beside-requires-clause-few : goal.finish_beside-requires-clause-few
finish_beside-requires-clause-few g c =
    let us = c.run_and_close.new.windows in
    let shown = c.as_slice-2.ensures.value ∙ with_items_is c.open_all.new.windows us (omega (arith, c.run_and_close.auto.windows, c.as_mut_slice-shelves.ensures.len)) in
    let opened = subst (AreOpened c.args.problem.now c.args.plan.now) (sym c.as_mut_slice-finders.ensures.value) c.in_ok-open_all.ensures.opened in
    let many = ap (λ (l : List Actor). length l) c.as_mut_slice-finders.ensures.value ∙ c.in_ok-open_all.ensures.many in
    let some = c.requires.some in
    let run = subst (λ (p : Stated). HasRun p c.in_ok-outcome.outcome c.run_and_close.new.prover c.as_mut_slice-finders.result.now c.run_and_close.new.actors us)
    (same_problem c.args.problem.now c.args.plan.now.finders c.args.prover.now c.requires.started) c.in_ok-outcome.ensures in
    subst (λ (l : List WindowState). All (λ (w : WindowState). length w.seen ≤ 2 ^ 31) l) (sym shown)
    (all_few c.args.problem.now c.args.plan.now c.in_ok-outcome.outcome c.run_and_close.new.prover c.as_mut_slice-finders.result.now c.run_and_close.new.actors us run c.requires.plan opened (omega (arith, many, some)))

pub returns-clause-recorded : goal.returns-clause-recorded
returns-clause-recorded g c =
    let us = c.run_and_close.new.windows in
    let hs = c.run_and_close.new.actors in
    let shown = c.as_slice-2.ensures.value ∙ with_items_is c.open_all.new.windows us (omega (arith, c.run_and_close.auto.windows, c.as_mut_slice-shelves.ensures.len)) in
    let ended = c.as_slice.ensures.value ∙ with_items_is c.open_all.new.actors hs (omega (arith, c.run_and_close.auto.actors, c.as_mut_slice-finders.ensures.len)) in
    let opened = subst (AreOpened c.args.problem.now c.args.plan.now) (sym c.as_mut_slice-finders.ensures.value) c.in_ok-open_all.ensures.opened in
    let many = ap (λ (l : List Actor). length l) c.as_mut_slice-finders.ensures.value ∙ c.in_ok-open_all.ensures.many in
    let run = subst (λ (p : Stated). HasRun p c.in_ok-outcome.outcome c.run_and_close.new.prover c.as_mut_slice-finders.result.now hs us)
    (same_problem c.args.problem.now c.args.plan.now.finders c.args.prover.now c.requires.started) c.in_ok-outcome.ensures in
    c.in_ok-run.ensures.recorded c.args.plan.now
    (subst (λ (l : List Actor). AllFound c.args.problem.now c.args.plan.now (ends_of l) (seen_of c.as_slice-2.result.now)) (sym ended)
    (subst (λ (l : List WindowState). AllFound c.args.problem.now c.args.plan.now (ends_of hs) (seen_of l)) (sym shown)
    (all_found c.args.problem.now c.args.plan.now c.in_ok-outcome.outcome c.run_and_close.new.prover c.as_mut_slice-finders.result.now hs us run c.requires.plan opened many)))

pub returns-clause-windows : goal.returns-clause-windows
returns-clause-windows g c =
    let us = c.run_and_close.new.windows in
    let items = with_items_is c.open_all.new.windows us (omega (arith, c.run_and_close.auto.windows, c.as_mut_slice-shelves.ensures.len)) in
    let shown = c.as_slice-2.ensures.value ∙ items in
    let many = ap (λ (l : List Actor). length l) c.as_mut_slice-finders.ensures.value ∙ c.in_ok-open_all.ensures.many in
    let some = c.requires.some in
    subst (λ (l : List WindowState). AreWindows (run_value c.in_ok-run.run') c.finish_beside.new.prover.seen l) (sym items)
    (subst (λ (lists : Seen). AreWindows (run_value c.in_ok-run.run') lists us) (sym (c.in_ok-run.ensures.sees ∙ ap seen_of shown))
    (are_windows c.args.prover.now.problem c.args.plan.now c.in_ok-outcome.outcome c.run_and_close.new.prover _ _ us c.in_ok-outcome.ensures (omega (arith, many, some)) (run_value c.in_ok-run.run')
    c.in_ok-run.ensures.given c.in_ok-run.ensures.outcome))
