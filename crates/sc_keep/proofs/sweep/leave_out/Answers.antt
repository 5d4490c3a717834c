use Rattle.std.proofs.Common.{◌∙◌, arith, refl}
use Rattle.sc_keep.proofs.SweepLaws.{none_left, all_left, one_out, one_in}
use Rattle.sc_keep.proofs.sweep.leave_out.Goals.{then-is_among, else-is_among}
use Rattle.sc_keep.proofs.sweep.leave_out.Goals as goal

pub loop-back-init : goal.loop-back-init
loop-back-init c = none_left c.args.gone.now c.args.ps.now

pub loop-back-preserved : goal.loop-back-preserved
loop-back-preserved c = elim c.if-is_among.branch [
  | then-is_among w ↦ one_out c.args.gone.now c.args.ps.now c.loop-back.ps c.as_slice.result.now c.loop-back.back c.len-count.result _ c.index-as_slice-at.result c.len-count.ensures c.loop-back-test.true refl
      c.loop-back.invariant c.as_slice.ensures c.is_among.result c.if-is_among.ps c.is_among.ensures w.if-is_among.true (w.ps-is ∙ w.remove.ensures.rest)
  | else-is_among w ↦ one_in c.args.gone.now c.args.ps.now c.loop-back.ps c.as_slice.result.now c.loop-back.back c.len-count.result _ c.index-as_slice-at.result c.len-count.ensures c.loop-back-test.true refl
      c.loop-back.invariant c.as_slice.ensures c.is_among.result c.if-is_among.ps c.is_among.ensures w.if-is_among.false w.ps-is
]

pub returns : goal.returns
returns c =
    let many = c.len-count.ensures in
    let long = c.loop-back-test.false in
    all_left c.args.gone.now c.args.ps.now c.loop-back.back c.loop-back.ps (omega (arith, many, long)) c.loop-back.invariant
