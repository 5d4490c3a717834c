use Rattle.std.proofs.Common.{◌∙◌, ◌≤◌, ◌^◌, List, [], ap, subst, sym, set, get_or, length, arith}
use Rattle.sc_interp.specs.Versions.{ClaimedStructure}
use Rattle.sc_shelf.specs.Entries.{StartsWith}
use Rattle.sc_shelf.specs.State.{WindowState}
use Rattle.sc_world.proofs.AbreastLaws.{catching_first, list_there, list_begins, catching_more, catching_all}
use Rattle.sc_world.proofs.turns.catch_up.Goals as goal

pub loop-i-init : goal.loop-i-init
loop-i-init c = catching_first c.args.prover.now c.args.windows.now

pub see_others-requires-clause-there : goal.see_others-requires-clause-there
see_others-requires-clause-there c =
    list_there c.args.prover.now c.loop-i.prover c.args.windows.now c.loop-i.i c.requires.grown c.loop-i.invariant c.loop-i-test.true

pub see_others-requires-clause-few : goal.see_others-requires-clause-few
see_others-requires-clause-few c =
    let e = c.as_slice.ensures ∙ c.seen.ensures.value ∙ ap (λ (w : WindowState). w.seen) c.index-windows-i.is in
    subst (λ (l : List ClaimedStructure). length l ≤ 2 ^ 31) (sym e) (c.requires.few c.loop-i.i c.index-windows-i.result c.loop-i-test.true)

pub see_others-requires-clause-begins : goal.see_others-requires-clause-begins
see_others-requires-clause-begins c =
    let e = c.as_slice.ensures ∙ c.seen.ensures.value in
    subst (λ (l : List ClaimedStructure). StartsWith l (get_or c.loop-i.prover.seen c.loop-i.i [])) (sym e)
    (list_begins c.args.prover.now c.loop-i.prover c.args.windows.now c.loop-i.i c.requires.grown c.loop-i.invariant c.index-windows-i.result c.loop-i-test.true c.index-windows-i.is)

pub loop-i-preserved : goal.loop-i-preserved
loop-i-preserved c =
    let e = c.as_slice.ensures ∙ c.seen.ensures.value in
    catching_more c.args.prover.now c.loop-i.prover c.args.windows.now c.loop-i.i c.requires.grown c.loop-i.invariant c.see_others.new.prover c.index-windows-i.result c.loop-i-test.true c.index-windows-i.is
    (c.in_ok-see_others.ensures ∙ ap (λ (l : List ClaimedStructure). record c.loop-i.prover { seen = set c.loop-i.prover.seen c.loop-i.i l }) e)

pub returns : goal.returns
returns c =
    let test = c.loop-i-test.false in
    catching_all c.args.prover.now c.loop-i.prover c.args.windows.now c.loop-i.i c.requires.grown c.loop-i.invariant (omega (arith, test))
