use Rattle.std.proofs.Common.{sym, subst, List, ◌++◌, take}
use Rattle.std.proofs.lemmas.List.{append-nil, take_all}
use Rattle.sc_term.specs.declared.Numbered.{Numbered}
use Rattle.sc_keep.specs.Rivals.{IsLeastRival}
use Rattle.sc_keep.proofs.LeastLaws.{one_further}
use Rattle.sc_keep.proofs.rival.least_rival.Goals as goal

pub loop-m-init : goal.loop-m-init
loop-m-init c front h = subst (λ (ps : List Numbered). IsLeastRival c.args.n.now ps c.args.best) (sym (append-nil front)) h

pub loop-m-preserved : goal.loop-m-preserved
loop-m-preserved c front h =
    subst (λ (ps : List Numbered). IsLeastRival c.args.n.now ps c.in_ok-best.best)
    (one_further front c.args.ps.now c.loop-m.m-index c.m-item.result c.loop-m-test.true c.m-item.is)
    (c.in_ok-best.ensures (front ++ take c.loop-m.m-index c.args.ps.now) (c.loop-m.invariant front h))

pub returns : goal.returns
returns c front h =
    subst (λ (ps : List Numbered). IsLeastRival c.args.n.now (front ++ ps) c.loop-m.best)
    (take_all c.loop-m.m-index c.args.ps.now c.loop-m-test.false) (c.loop-m.invariant front h)
