use Rattle.std.proofs.Common.{sym, ◌∙◌, ◌≡◌, length, subst, arith, true≢false, slice_get}
use Rattle.std.proofs.lemmas.Option.{slice_get_read}
use Rattle.sc_term.specs.declared.Literal.{Literal}
use Rattle.sc_core_rules.specs.Resolution.{factor_numbers}
use Rattle.sc_core_rules.proofs.StepLaws.{same_some}
use Rattle.sc_resolve.specs.Literals.{AreMergeable}
use Rattle.sc_resolve.specs.Factor.{IsWithSecond}
use Rattle.sc_resolve.proofs.Extending.{goes_on, stops}
use Rattle.sc_resolve.proofs.LiteralLaws.{some_at}
use Rattle.sc_resolve.proofs.FactorLaws.{seconds_rise, added, passed, none_yet, with_first}
use Rattle.sc_resolve.proofs.factor.add_with_first.Goals as goal
use Rattle.sc_resolve.proofs.factor.add_with_first.Goals.{then-branch+in_ok-push, else-branch}

pub loop-at-init : goal.loop-at-init
loop-at-init c = λ a there. none_yet c.args.limit c.args.first a c.args.literals.now c.args.sites.now

pub returns-then-len-limit : goal.returns-then-len-limit
returns-then-len-limit c =
    let all = c.args.literals.now in
    let a = some_at all c.args.first c.requires.there in
    with_first c.args.limit all c.args.first (length all) a.0 a.1 (λ i. length all) c.args.sites.now c.loop-at.sites
    (stops factor_numbers c.args.limit (IsWithSecond c.args.first a.0 all) (seconds_rise c.args.first a.0 all) c.loop-at.at (length all) c.args.sites.now c.loop-at.sites
    (c.loop-at.invariant a.0 a.1) (omega arith) (omega arith))

pub loop-at-preserved : goal.loop-at-preserved
loop-at-preserved c = λ a at_a.
    let all = c.args.literals.now in
    let there = slice_get_read all (length all) c.loop-at.at c.index-literals-at.result (λ i. length all) c.loop-at-test.true c.index-literals-at.is in
    let first = slice_get_read all (length all) c.args.first c.index-literals-first.result (λ i. length all) c.requires.there c.index-literals-first.is in
    let e : c.index-literals-first.result ≡ a = same_some (slice_get all c.args.first) c.index-literals-first.result a first at_a in
    goes_on factor_numbers c.args.limit (IsWithSecond c.args.first a all) (seconds_rise c.args.first a all) c.loop-at.at c.args.sites.now c.loop-at.sites c.if-branch.sites (c.loop-at.invariant a at_a)
    (elim c.if-branch.branch [
      | then-branch+in_ok-push w ↦ added c.args.limit c.args.first a all c.loop-at.at c.index-literals-at.result there c.loop-at.sites c.if-branch.sites (omega arith) (omega arith)
          (w.sites-is ∙ w.in_ok-push.ensures.ok) (subst (λ (l : Literal). AreMergeable l c.index-literals-at.result) e (c.in_ok-are_mergeable.ensures.0 w.if-branch.true))
      | else-branch w ↦ passed c.args.limit c.args.first a all c.loop-at.at c.index-literals-at.result there c.loop-at.sites c.if-branch.sites w.sites-is
          (λ h. true≢false (sym (c.in_ok-are_mergeable.ensures.1 (subst (λ (l : Literal). AreMergeable l c.index-literals-at.result) (sym e) h)) ∙ w.if-branch.false))
    ])

pub returns : goal.returns
returns c =
    let all = c.args.literals.now in
    let a = some_at all c.args.first c.requires.there in
    with_first c.args.limit all c.args.first c.loop-at.at a.0 a.1 (omega (arith, c.loop-at.auto.at-end)) c.args.sites.now c.loop-at.sites (c.loop-at.invariant a.0 a.1)
