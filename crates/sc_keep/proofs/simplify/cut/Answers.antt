use Rattle.std.proofs.Common.{◌≡◌, ◌++◌, sym, subst, List}
use Rattle.std.specs.Borrow.{Bor}
use Rattle.sc_term.specs.declared.Numbered.{Numbered}
use Rattle.sc_resolve.specs.ByNumber.{seen}
use Rattle.sc_keep.specs.LiveUnits.{AreUnitsInOrder}
use Rattle.sc_keep.proofs.SimplifyUnits.{checks_by_units, deletes_by_units}
use Rattle.sc_keep.proofs.SimplifySteps.{asked_for}
use Rattle.sc_keep.proofs.simplify.cut.Goals as goal

pub unit_delete_by-requires-clause-rising : goal.unit_delete_by-requires-clause-rising
unit_delete_by-requires-clause-rising c =
    let live = c.args.live.usable.now ++ c.args.live.sos.now ++ c.args.live.passive.now in
    (subst (λ (ps : List (Bor Numbered)). AreUnitsInOrder live (seen ps)) (sym c.as_slice.ensures.value) c.in_ok-units.ensures).rising

pub unit_delete_by-requires-clause-checks : goal.unit_delete_by-requires-clause-checks
unit_delete_by-requires-clause-checks c =
    let live = c.args.live.usable.now ++ c.args.live.sos.now ++ c.args.live.passive.now in
    checks_by_units live (seen c.as_slice.result.now) (subst (λ (ps : List (Bor Numbered)). AreUnitsInOrder live (seen ps)) (sym c.as_slice.ensures.value) c.in_ok-units.ensures)
    c.args.made.lines c.requires.checks

pub returns : goal.returns
returns c =
    let live = c.args.live.usable.now ++ c.args.live.sos.now ++ c.args.live.passive.now in
    asked_for _ (c.in_ok-after.after.lines ≡ c.args.made.lines) c.args.unit_deletion c.if-not-unit_deletion.false
    (deletes_by_units live (seen c.as_slice.result.now) (subst (λ (ps : List (Bor Numbered)). AreUnitsInOrder live (seen ps)) (sym c.as_slice.ensures.value) c.in_ok-units.ensures)
    c.args.made.lines c.in_ok-after.after.lines c.in_ok-after.ensures.deletes)
