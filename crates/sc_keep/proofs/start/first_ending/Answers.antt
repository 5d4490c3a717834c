use Rattle.std.proofs.Common.{subst, List, [], take}
use Rattle.std.proofs.lemmas.List.{take_all}
use Rattle.sc_term.specs.declared.Numbered.{Numbered}
use Rattle.sc_keep.specs.Start.{IsFirstEnding}
use Rattle.sc_keep.proofs.LeastLaws.{one_further}
use Rattle.sc_keep.proofs.start.first_ending.Goals as goal

pub loop-n-preserved : goal.loop-n-preserved
loop-n-preserved c problem has =
    subst (λ (ps : List Numbered). IsFirstEnding problem ps c.in_ok-best.best)
    (one_further [] c.args.all.now c.loop-n.n-index c.n-item.result c.loop-n-test.true c.n-item.is)
    (c.in_ok-best.ensures problem has (take c.loop-n.n-index c.args.all.now) (c.loop-n.invariant problem has))

pub returns : goal.returns
returns c problem has =
    subst (λ (ps : List Numbered). IsFirstEnding problem ps c.loop-n.best)
    (take_all c.loop-n.n-index c.args.all.now c.loop-n-test.false) (c.loop-n.invariant problem has)
