use Rattle.sc_find_laws.proofs.ModelLaws.{problems_without}
use Rattle.sc_find_laws.proofs.problems_without_models.Goals as goal

pub returns : goal.returns
returns c = problems_without
