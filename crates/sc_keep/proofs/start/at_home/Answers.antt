use Rattle.std.proofs.Common.{◌≡◌, ◌∙◌, sym, subst, ◌++◌, ◌∷◌, [], Some, true≢false}
use Rattle.std.proofs.lemmas.List.{take_all}
use Rattle.sc_term.specs.declared.Numbered.{Numbered}
use Rattle.sc_term.specs.Numbering.{numbered}
use Rattle.sc_core_rules.specs.Order.{IsFilter, none}
use Rattle.sc_keep.proofs.StartLaws.{one_taken, one_passed}
use Rattle.sc_keep.proofs.start.at_home.Goals.{then-stands_in+in_ok-copy+in_ok-push, else-stands_in}
use Rattle.sc_keep.proofs.start.at_home.Goals as goal

pub loop-p-init : goal.loop-p-init
loop-p-init c = subst (IsFilter (λ (p : Numbered). numbered c.args.homes.now p.number ≡ Some c.args.home) []) (sym c.new-ps.ensures) none

pub loop-p-preserved : goal.loop-p-preserved
loop-p-preserved c =
    let P = λ (p : Numbered). numbered c.args.homes.now p.number ≡ Some c.args.home in
    elim c.if-stands_in.branch [
      | then-stands_in+in_ok-copy+in_ok-push w ↦ one_taken P c.args.all.now c.loop-p.p-index c.p-item.result c.loop-p-test.true c.p-item.is c.loop-p.ps c.if-stands_in.ps (c.stands_in.ensures.0 w.if-stands_in.true)
          (w.ps-is ∙ w.in_ok-push.ensures.ok ∙ (λ i. c.loop-p.ps ++ record { number = c.p-item.result.number; clause = w.in_ok-copy.ensures i } ∷ [])) c.loop-p.invariant
      | else-stands_in w ↦ one_passed P c.args.all.now c.loop-p.p-index c.p-item.result c.loop-p-test.true c.p-item.is c.loop-p.ps c.if-stands_in.ps
          (λ h. true≢false (sym (c.stands_in.ensures.1 h) ∙ w.if-stands_in.false)) w.ps-is c.loop-p.invariant
    ]

pub returns : goal.returns
returns c =
    let P = λ (p : Numbered). numbered c.args.homes.now p.number ≡ Some c.args.home in
    subst (λ xs. IsFilter P xs c.loop-p.ps) (take_all c.loop-p.p-index c.args.all.now c.loop-p-test.false) c.loop-p.invariant
