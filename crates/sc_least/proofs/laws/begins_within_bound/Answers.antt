use Rattle.sc_least.proofs.BoundLaws.{begins_within}
use Rattle.sc_least.proofs.laws.begins_within_bound.Goals as goal

pub returns : goal.returns
returns c = begins_within
