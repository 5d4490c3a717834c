use Rattle.std.proofs.Common.{sym, subst, List}
use Rattle.std.specs.Borrow.{Bor}
use Rattle.std.proofs.lemmas.Result.{IfOk-weaker}
use Rattle.sc_term.specs.declared.Numbered.{Numbered}
use Rattle.sc_core_rules.specs.Order.{Exhausts}
use Rattle.sc_core_rules.specs.Simplification.{DeletesOnce}
use Rattle.sc_resolve.specs.ByNumber.{AreByNumber, seen}
use Rattle.sc_demod.specs.Standing.{KeepsChecking}
use Rattle.sc_demod.proofs.DeletingLaws.{checks_by_number, deletes_by_number, keeps_by_number}
use Rattle.sc_demod.proofs.unit.unit_delete.Goals as goal

pub unit_delete_by-requires-clause-rising : goal.unit_delete_by-requires-clause-rising
unit_delete_by-requires-clause-rising c =
    let h = subst (λ (ps : List (Bor Numbered)). AreByNumber c.args.units.now (seen ps)) (sym c.as_slice-2.ensures.value)
    (subst (λ (us : List Numbered). AreByNumber us (seen c.in_ok-ordered.ordered.items)) c.as_slice.ensures c.in_ok-ordered.ensures) in
    h.rising

pub unit_delete_by-requires-clause-checks : goal.unit_delete_by-requires-clause-checks
unit_delete_by-requires-clause-checks c =
    let h = subst (λ (ps : List (Bor Numbered)). AreByNumber c.args.units.now (seen ps)) (sym c.as_slice-2.ensures.value)
    (subst (λ (us : List Numbered). AreByNumber us (seen c.in_ok-ordered.ordered.items)) c.as_slice.ensures c.in_ok-ordered.ensures) in
    checks_by_number c.args.units.now (seen c.as_slice-2.result.now) h c.args.made.lines c.requires.checks

pub returns-clause-deletes : goal.returns-clause-deletes
returns-clause-deletes c =
    let h = subst (λ (ps : List (Bor Numbered)). AreByNumber c.args.units.now (seen ps)) (sym c.as_slice-2.ensures.value)
    (subst (λ (us : List Numbered). AreByNumber us (seen c.in_ok-ordered.ordered.items)) c.as_slice.ensures c.in_ok-ordered.ensures) in
    IfOk-weaker c.unit_delete_by.result (λ after. Exhausts (DeletesOnce (seen c.as_slice-2.result.now)) c.args.made.lines after.lines) (λ after. Exhausts (DeletesOnce c.args.units.now) c.args.made.lines after.lines)
    (λ after d. deletes_by_number c.args.units.now (seen c.as_slice-2.result.now) h c.args.made.lines after.lines d) c.unit_delete_by.ensures.deletes

pub returns-clause-checks : goal.returns-clause-checks
returns-clause-checks c =
    let h = subst (λ (ps : List (Bor Numbered)). AreByNumber c.args.units.now (seen ps)) (sym c.as_slice-2.ensures.value)
    (subst (λ (us : List Numbered). AreByNumber us (seen c.in_ok-ordered.ordered.items)) c.as_slice.ensures c.in_ok-ordered.ensures) in
    IfOk-weaker c.unit_delete_by.result (λ after. KeepsChecking (seen c.as_slice-2.result.now) c.args.made.lines after.lines) (λ after. KeepsChecking c.args.units.now c.args.made.lines after.lines)
    (λ after k. keeps_by_number c.args.units.now (seen c.as_slice-2.result.now) h c.args.made.lines after.lines k) c.unit_delete_by.ensures.checks
