use Rattle.std.proofs.Common.{subst, List, [], take}
use Rattle.std.proofs.lemmas.List.{take_all}
use Rattle.sc_term.specs.declared.Numbered.{Numbered}
use Rattle.sc_keep.specs.Start.{IsLeastEarlier}
use Rattle.sc_keep.proofs.LeastLaws.{one_further}
use Rattle.sc_keep.proofs.start.least_earlier.Goals as goal

pub loop-m-preserved : goal.loop-m-preserved
loop-m-preserved c problem e =
    subst (λ (ps : List Numbered). IsLeastEarlier problem c.args.n.now ps c.in_ok-best.best)
    (one_further [] c.args.all.now c.loop-m.m-index c.m-item.result c.loop-m-test.true c.m-item.is)
    (c.in_ok-best.ensures problem e (take c.loop-m.m-index c.args.all.now) (c.loop-m.invariant problem e))

pub returns : goal.returns
returns c problem e =
    subst (λ (ps : List Numbered). IsLeastEarlier problem c.args.n.now ps c.loop-m.best)
    (take_all c.loop-m.m-index c.args.all.now c.loop-m-test.false) (c.loop-m.invariant problem e)
