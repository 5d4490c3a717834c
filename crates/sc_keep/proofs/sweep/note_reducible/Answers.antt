use Rattle.std.proofs.Common.{◌≡◌, ◌∙◌, sym, ap, subst, ℕ, ◌+◌, ◌++◌, List, take, Vec, Global, true≢false}
use Rattle.sc_term.specs.declared.Numbered.{Numbered}
use Rattle.sc_core_rules.specs.Order.{IsFilter}
use Rattle.sc_keep.specs.Sweep.{IsOtherReducible, numbers}
use Rattle.sc_keep.proofs.SweepLaws.{one_picked, one_passed, none_picked, all_picked}
use Rattle.sc_keep.proofs.sweep.note_reducible.Goals.{then-branch+in_ok-push, else-branch}
use Rattle.sc_keep.proofs.sweep.note_reducible.Goals as goal

pub loop-p-init : goal.loop-p-init
loop-p-init c = none_picked (IsOtherReducible c.args.n.now) c.args.gone.now.items

pub loop-p-preserved : goal.loop-p-preserved
loop-p-preserved c = elim c.if-branch.branch [
  | then-branch+in_ok-push w ↦ one_picked (IsOtherReducible c.args.n.now) c.args.ps.now c.loop-p.p-index c.p-item.result c.loop-p-test.true c.p-item.is c.args.gone.now.items c.loop-p.gone.items c.if-branch.gone.items
      (c.in_ok-is_reducible.ensures.0 w.if-branch.true) (ap (λ v. v.items) w.gone-is ∙ w.in_ok-push.ensures.items) c.loop-p.invariant
  | else-branch w ↦ subst (λ (v : Vec ℕ Global). (picked : List Numbered) × IsFilter (IsOtherReducible c.args.n.now) (take (c.loop-p.p-index + 1) c.args.ps.now) picked × (v.items ≡ c.args.gone.now.items ++ numbers picked)) (sym w.gone-is)
      (one_passed (IsOtherReducible c.args.n.now) c.args.ps.now c.loop-p.p-index c.p-item.result c.loop-p-test.true c.p-item.is c.args.gone.now.items c.loop-p.gone.items
      (λ h. true≢false (sym (c.in_ok-is_reducible.ensures.1 h) ∙ w.if-branch.false)) c.loop-p.invariant)
]

pub returns : goal.returns
returns c = all_picked (IsOtherReducible c.args.n.now) c.args.ps.now c.loop-p.p-index c.args.gone.now.items c.loop-p.gone.items c.loop-p-test.false c.loop-p.invariant
