use Rattle.std.proofs.Common.{sym, subst, List}
use Rattle.std.specs.Borrow.{Bor}
use Rattle.std.proofs.lemmas.Result.{IfOk-weaker}
use Rattle.sc_term.specs.declared.Numbered.{Numbered}
use Rattle.sc_core_rules.specs.Resolution.{AreBinarySites}
use Rattle.sc_resolve.specs.ByNumber.{AreByNumber, seen}
use Rattle.sc_resolve.specs.Kept.{IsKept}
use Rattle.sc_resolve.proofs.OrderLaws.{all_by_number}
use Rattle.sc_resolve.proofs.BinaryLaws.{sites_by_number}
use Rattle.sc_resolve.proofs.binary.binary_sites.Goals as goal

pub sites_in_order-requires-clause-rising : goal.sites_in_order-requires-clause-rising
sites_in_order-requires-clause-rising c =
    let h = subst (λ (ps : List (Bor Numbered)). AreByNumber c.args.usable.now (seen ps)) (sym c.as_slice-2.ensures.value)
    (subst (λ (us : List Numbered). AreByNumber us (seen c.in_ok-ordered.ordered.items)) c.as_slice.ensures c.in_ok-ordered.ensures) in
    h.rising

pub sites_in_order-requires-clause-kept : goal.sites_in_order-requires-clause-kept
sites_in_order-requires-clause-kept c =
    let h = subst (λ (ps : List (Bor Numbered)). AreByNumber c.args.usable.now (seen ps)) (sym c.as_slice-2.ensures.value)
    (subst (λ (us : List Numbered). AreByNumber us (seen c.in_ok-ordered.ordered.items)) c.as_slice.ensures c.in_ok-ordered.ensures) in
    all_by_number (λ p. IsKept p.clause) c.args.usable.now (seen c.as_slice-2.result.now) h c.requires.kept

pub returns : goal.returns
returns c =
    let h = subst (λ (ps : List (Bor Numbered)). AreByNumber c.args.usable.now (seen ps)) (sym c.as_slice-2.ensures.value)
    (subst (λ (us : List Numbered). AreByNumber us (seen c.in_ok-ordered.ordered.items)) c.as_slice.ensures c.in_ok-ordered.ensures) in
    IfOk-weaker c.sites_in_order.result (λ sites. AreBinarySites c.args.given.now (seen c.as_slice-2.result.now) c.args.limit sites) (λ sites. AreBinarySites c.args.given.now c.args.usable.now c.args.limit sites)
    (λ sites first. sites_by_number c.args.given.now c.args.usable.now (seen c.as_slice-2.result.now) c.args.limit sites h first) c.sites_in_order.ensures
