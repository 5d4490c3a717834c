use Rattle.std.proofs.Common.{subst, arith}
use Rattle.sc_subsume.specs.Search.{Takes, IsTaken, IsRefused}
use Rattle.sc_subsume.proofs.TakingLaws.{first_place, none-more}
use Rattle.sc_subsume.proofs.matching.next_place.Goals as goal

pub returns-then-branch : goal.returns-then-branch
returns-then-branch c =
    let p = c.args.pattern.now in
    let t = c.index-targets-place.result in
    let new = c.match_literal.new.bound.items in
    let told = subst (λ q. Takes q p t c.loop-place.bound.items new) c.if-branch.true c.in_ok-match_literal.ensures in
    let taken = subst (λ b. IsTaken p t b new) c.loop-place.invariant.kept told in
    first_place p c.args.targets.now c.args.bound.now.items c.args.first c.loop-place.place t c.loop-place-test.true c.index-targets-place.is (omega arith) c.loop-place.invariant.none new taken

pub loop-place-preserved : goal.loop-place-preserved
loop-place-preserved c =
    let p = c.args.pattern.now in
    let t = c.index-targets-place.result in
    let new = c.match_literal.new.bound.items in
    let told = subst (λ q. Takes q p t c.loop-place.bound.items new) c.if-branch.false c.in_ok-match_literal.ensures in
    let refused = subst (λ b. IsRefused p t b new) c.loop-place.invariant.kept told in
    record {
      kept = refused.kept;
      none = none-more p c.args.targets.now c.args.bound.now.items c.args.first c.loop-place.place t c.loop-place-test.true c.index-targets-place.is (omega arith) c.loop-place.invariant.none refused.never;
    }

pub returns : goal.returns
returns c = record {
  kept = c.loop-place.invariant.kept;
  nowhere = λ s g k low high. c.loop-place.invariant.none s g k low (omega arith);
}
