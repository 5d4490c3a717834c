use Rattle.sc_least.proofs.BoundLaws.{none_within}
use Rattle.sc_least.proofs.laws.none_within_bound_means_none.Goals as goal

pub returns : goal.returns
returns c = none_within
