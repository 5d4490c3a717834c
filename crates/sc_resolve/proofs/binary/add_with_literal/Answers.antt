use Rattle.std.proofs.Common.{sym, ◌∙◌, length, arith, true≢false}
use Rattle.std.proofs.lemmas.Option.{slice_get_read}
use Rattle.sc_core_rules.specs.Resolution.{binary_numbers}
use Rattle.sc_resolve.specs.Binary.{IsWithLiteral}
use Rattle.sc_resolve.proofs.Extending.{goes_on, stops}
use Rattle.sc_resolve.proofs.BinaryLaws.{literals_rise, added, passed}
use Rattle.sc_resolve.proofs.binary.add_with_literal.Goals as goal
use Rattle.sc_resolve.proofs.binary.add_with_literal.Goals.{then-branch+in_ok-push, else-branch}

pub returns-then-len-limit : goal.returns-then-len-limit
returns-then-len-limit c =
    stops binary_numbers c.args.limit (IsWithLiteral c.args.partner c.args.given_lit c.args.l.now c.args.others.now) (literals_rise c.args.partner c.args.given_lit c.args.l.now c.args.others.now)
    c.loop-at.at (length c.args.others.now) c.args.sites.now c.loop-at.sites c.loop-at.invariant (omega arith) (omega arith)

pub loop-at-preserved : goal.loop-at-preserved
loop-at-preserved c =
    let there = slice_get_read c.args.others.now (length c.args.others.now) c.loop-at.at c.index-others-at.result (λ i. length c.args.others.now) c.loop-at-test.true c.index-others-at.is in
    goes_on binary_numbers c.args.limit (IsWithLiteral c.args.partner c.args.given_lit c.args.l.now c.args.others.now) (literals_rise c.args.partner c.args.given_lit c.args.l.now c.args.others.now)
    c.loop-at.at c.args.sites.now c.loop-at.sites c.if-branch.sites c.loop-at.invariant
    (elim c.if-branch.branch [
      | then-branch+in_ok-push w ↦ added c.args.limit c.args.partner c.args.given_lit c.args.l.now c.args.others.now c.loop-at.at c.index-others-at.result there c.loop-at.sites c.if-branch.sites
          (omega arith) (w.sites-is ∙ w.in_ok-push.ensures.ok) (c.in_ok-are_resolvable.ensures.0 w.if-branch.true)
      | else-branch w ↦ passed c.args.limit c.args.partner c.args.given_lit c.args.l.now c.args.others.now c.loop-at.at c.index-others-at.result there c.loop-at.sites c.if-branch.sites
          w.sites-is (λ h. true≢false (sym (c.in_ok-are_resolvable.ensures.1 h) ∙ w.if-branch.false))
    ])
