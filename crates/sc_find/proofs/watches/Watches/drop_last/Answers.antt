use Rattle.std.proofs.Common.{subst}
use Rattle.sc_find.specs.Linked.{AreLinked}
use Rattle.sc_find.proofs.LinkLaws.{dropped_linked}
use Rattle.sc_find.proofs.watches.Watches.drop_last.Goals as goal

pub invariant_of-self : goal.invariant_of-self
invariant_of-self c = dropped_linked c.self.inside.latest.items c.pop.new.self.items c.in-Some.watch (subst (AreLinked c.self.inside.latest.items) c.in-Some.ensures.items c.self.invariant)
