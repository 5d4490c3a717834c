use Rattle.std.proofs.Common.{subst, MatchOption, arith}
use Rattle.std.proofs.lemmas.List.Elements.{AllWithin-more, at_read}
use Rattle.sc_term.specs.declared.Numbered.{Numbered}
use Rattle.sc_core_rules.specs.Rewriting.{Fits}
use Rattle.sc_demod.specs.Fitting.{FitsBy}
use Rattle.sc_demod.proofs.fit.first_fit.Goals as goal

pub loop-place-preserved : goal.loop-place-preserved
loop-place-preserved c =
    let demods = c.args.demods.now in
    let s = c.args.s.now in
    let i = c.loop-place.place in
    let d = c.index-demods-place.result in
    let none = λ (d : Numbered). ¬ Fits d s in
    let here = subst (λ o. MatchOption o (¬ Fits d s) (FitsBy d s)) c.in-None.is c.in_ok-terms.ensures in
    AllWithin-more none demods 0 i c.loop-place.invariant (at_read demods none i d c.loop-place-test.true c.index-demods-place.is here)

pub returns : goal.returns
returns c = λ k d low high. c.loop-place.invariant k d low (omega arith)
