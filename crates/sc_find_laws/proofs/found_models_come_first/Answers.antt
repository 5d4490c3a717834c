use Rattle.sc_find_laws.proofs.ModelLaws.{found_models_first}
use Rattle.sc_find_laws.proofs.found_models_come_first.Goals as goal

pub returns : goal.returns
returns c = found_models_first
