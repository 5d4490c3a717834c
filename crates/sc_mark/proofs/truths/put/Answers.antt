use Rattle.std.proofs.Common.{sym, subst}
use Rattle.sc_mark.specs.Marking.{IsPut}
use Rattle.sc_mark.proofs.TruthLaws.{one_put}
use Rattle.sc_mark.proofs.truths.put.Goals as goal

pub returns : goal.returns
returns c = subst (IsPut c.args.n c.args.entry c.args.stored.now) (sym c.set.ensures) (one_put c.args.stored.now c.args.n c.args.entry c.requires)
