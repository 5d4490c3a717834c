use Rattle.std.proofs.Common.{sym, subst, List, ◌++◌, take}
use Rattle.std.proofs.lemmas.List.{append-nil, take_all}
use Rattle.sc_term.specs.declared.Numbered.{Numbered}
use Rattle.sc_term.specs.Subsumption.{Subsumes}
use Rattle.sc_keep.specs.Least.{IsLeastNumber}
use Rattle.sc_keep.proofs.LeastLaws.{one_further}
use Rattle.sc_keep.proofs.forward.least_subsumer.Goals as goal

pub loop-p-init : goal.loop-p-init
loop-p-init c front h = subst (λ (ps : List Numbered). IsLeastNumber (λ p. Subsumes p.clause c.args.c.now) ps c.args.best) (sym (append-nil front)) h

pub loop-p-preserved : goal.loop-p-preserved
loop-p-preserved c front h =
    subst (λ (ps : List Numbered). IsLeastNumber (λ p. Subsumes p.clause c.args.c.now) ps c.in_ok-best.best)
    (one_further front c.args.ps.now c.loop-p.p-index c.p-item.result c.loop-p-test.true c.p-item.is)
    (c.in_ok-best.ensures (front ++ take c.loop-p.p-index c.args.ps.now) (c.loop-p.invariant front h))

pub returns : goal.returns
returns c front h =
    subst (λ (ps : List Numbered). IsLeastNumber (λ p. Subsumes p.clause c.args.c.now) (front ++ ps) c.loop-p.best)
    (take_all c.loop-p.p-index c.args.ps.now c.loop-p-test.false) (c.loop-p.invariant front h)
