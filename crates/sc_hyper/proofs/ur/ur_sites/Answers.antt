use Rattle.std.proofs.Common.{sym, subst, List}
use Rattle.std.specs.Borrow.{Bor}
use Rattle.std.proofs.lemmas.Result.{IfOk-weaker}
use Rattle.sc_term.specs.declared.Numbered.{Numbered}
use Rattle.sc_core_rules.specs.Hyperresolution.{AreUrSites}
use Rattle.sc_resolve.specs.ByNumber.{AreByNumber, seen}
use Rattle.sc_resolve.specs.Kept.{IsKept}
use Rattle.sc_resolve.proofs.OrderLaws.{all_by_number}
use Rattle.sc_hyper.proofs.UrLaws.{ur_by_number}
use Rattle.sc_hyper.proofs.ur.ur_sites.Goals as goal

pub ur_sites_in_order-requires-clause-rising : goal.ur_sites_in_order-requires-clause-rising
ur_sites_in_order-requires-clause-rising c =
    let h = subst (λ (ps : List (Bor Numbered)). AreByNumber c.args.usable.now (seen ps)) (sym c.as_slice-2.ensures.value)
    (subst (λ (us : List Numbered). AreByNumber us (seen c.in_ok-ordered.ordered.items)) c.as_slice.ensures c.in_ok-ordered.ensures) in
    h.rising

pub ur_sites_in_order-requires-clause-kept : goal.ur_sites_in_order-requires-clause-kept
ur_sites_in_order-requires-clause-kept c =
    let h = subst (λ (ps : List (Bor Numbered)). AreByNumber c.args.usable.now (seen ps)) (sym c.as_slice-2.ensures.value)
    (subst (λ (us : List Numbered). AreByNumber us (seen c.in_ok-ordered.ordered.items)) c.as_slice.ensures c.in_ok-ordered.ensures) in
    all_by_number (λ p. IsKept p.clause) c.args.usable.now (seen c.as_slice-2.result.now) h c.requires.kept

pub returns : goal.returns
returns c =
    let h = subst (λ (ps : List (Bor Numbered)). AreByNumber c.args.usable.now (seen ps)) (sym c.as_slice-2.ensures.value)
    (subst (λ (us : List Numbered). AreByNumber us (seen c.in_ok-ordered.ordered.items)) c.as_slice.ensures c.in_ok-ordered.ensures) in
    IfOk-weaker c.ur_sites_in_order.result (λ sites. AreUrSites c.args.given.now (seen c.as_slice-2.result.now) c.args.limit sites) (λ sites. AreUrSites c.args.given.now c.args.usable.now c.args.limit sites)
    (λ sites first. ur_by_number c.args.given.now c.args.usable.now (seen c.as_slice-2.result.now) c.args.limit sites h first) c.ur_sites_in_order.ensures
