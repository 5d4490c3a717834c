use Rattle.sc_least.proofs.BoundLaws.{first_within}
use Rattle.sc_least.proofs.laws.first_is_within_bound.Goals as goal

pub returns : goal.returns
returns c = first_within
