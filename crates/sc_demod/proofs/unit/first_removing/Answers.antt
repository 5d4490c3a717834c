use Rattle.std.proofs.Common.{◌<◌, length, subst, MatchOption, arith}
use Rattle.std.specs.Borrow.{Bor}
use Rattle.std.proofs.lemmas.List.{length-map}
use Rattle.std.proofs.lemmas.List.Elements.{AllWithin-more, at_read}
use Rattle.sc_term.specs.declared.Numbered.{Numbered}
use Rattle.sc_core_rules.specs.Simplification.{Removes}
use Rattle.sc_resolve.specs.ByNumber.{seen}
use Rattle.sc_resolve.proofs.OrderLaws.{seen_or}
use Rattle.sc_demod.specs.Deleting.{IsRemoval}
use Rattle.sc_demod.proofs.unit.first_removing.Goals as goal

pub loop-place-preserved : goal.loop-place-preserved
loop-place-preserved c =
    let units = seen c.args.units.now in
    let long = length-map c.args.units.now (λ (p : Bor Numbered). p.now) in
    let l = c.args.l.now in
    let i = c.loop-place.place in
    let u = c.index-units-place.result.now in
    let inside : i < length units = omega (arith, c.loop-place-test.true, long) in
    let none = λ (u : Numbered). ¬ Removes l u in
    let here = subst (λ o. MatchOption o (¬ Removes l u) (IsRemoval l u)) c.in-None.is c.in_ok-terms.ensures in
    AllWithin-more none units 0 i c.loop-place.invariant (at_read units none i u inside (seen_or c.args.units.now i c.index-units-place.result inside c.index-units-place.is) here)

pub returns : goal.returns
returns c = λ k d low high. c.loop-place.invariant k d low (omega (arith, high, length-map c.args.units.now (λ (p : Bor Numbered). p.now)))
