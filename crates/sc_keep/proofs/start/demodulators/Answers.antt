use Rattle.std.proofs.Common.{◌≡◌, ◌∙◌, sym, subst, refl, ◌++◌, ◌∷◌, [], Some, true≢false}
use Rattle.std.proofs.lemmas.List.{take_all}
use Rattle.sc_term.specs.declared.Numbered.{Numbered}
use Rattle.sc_term.specs.Numbering.{numbered}
use Rattle.sc_input_rules.specs.declared.settings.Home.TheVariants.{Demodulators}
use Rattle.sc_core_rules.specs.Order.{IsFilter, none}
use Rattle.sc_core_rules.specs.Rewriting.{IsDemodulator}
use Rattle.sc_keep.proofs.DemodsLaws.{earlier_less, is_one}
use Rattle.sc_keep.proofs.StartLaws.{one_taken, one_passed}
use Rattle.sc_keep.proofs.start.demodulators.Goals.{then-stands_in+in_ok-copy+in_ok-push, else-stands_in}
use Rattle.sc_keep.proofs.start.demodulators.Goals as goal

pub loop-p-init : goal.loop-p-init
loop-p-init c = subst (IsFilter (λ (p : Numbered). numbered c.args.homes.now p.number ≡ Some Demodulators) []) (sym c.new-ds.ensures) none

pub push-requires-clause-demodulator : goal.push-requires-clause-demodulator
push-requires-clause-demodulator c =
    subst IsDemodulator (sym c.in_ok-copy.ensures)
    (is_one c.args.homes.now c.args.all.now c.loop-p.p-index c.p-item.result c.requires.are c.loop-p-test.true c.p-item.is (c.stands_in.ensures.0 c.if-stands_in.true))

pub push-requires-clause-greatest : goal.push-requires-clause-greatest
push-requires-clause-greatest c =
    let P = λ (p : Numbered). numbered c.args.homes.now p.number ≡ Some Demodulators in
    earlier_less P c.args.all.now c.loop-p.ds c.loop-p.p-index c.p-item.result c.p-item.result.number c.requires.rising c.loop-p-test.true c.p-item.is refl c.loop-p.invariant

pub loop-p-preserved : goal.loop-p-preserved
loop-p-preserved c =
    let P = λ (p : Numbered). numbered c.args.homes.now p.number ≡ Some Demodulators in
    elim c.if-stands_in.branch [
      | then-stands_in+in_ok-copy+in_ok-push w ↦ one_taken P c.args.all.now c.loop-p.p-index c.p-item.result c.loop-p-test.true c.p-item.is c.loop-p.ds c.if-stands_in.ds (c.stands_in.ensures.0 w.if-stands_in.true)
          (w.ds-is ∙ w.in_ok-push.ensures.ok ∙ (λ i. c.loop-p.ds ++ record { number = c.p-item.result.number; clause = w.in_ok-copy.ensures i } ∷ [])) c.loop-p.invariant
      | else-stands_in w ↦ one_passed P c.args.all.now c.loop-p.p-index c.p-item.result c.loop-p-test.true c.p-item.is c.loop-p.ds c.if-stands_in.ds
          (λ h. true≢false (sym (c.stands_in.ensures.1 h) ∙ w.if-stands_in.false)) w.ds-is c.loop-p.invariant
    ]

pub returns : goal.returns
returns c =
    let P = λ (p : Numbered). numbered c.args.homes.now p.number ≡ Some Demodulators in
    subst (λ xs. IsFilter P xs c.loop-p.ds) (take_all c.loop-p.p-index c.args.all.now c.loop-p-test.false) c.loop-p.invariant
