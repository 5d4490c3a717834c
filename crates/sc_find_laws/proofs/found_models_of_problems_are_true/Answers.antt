use Rattle.sc_find_laws.proofs.ModelLaws.{found_models_of_problems_true}
use Rattle.sc_find_laws.proofs.found_models_of_problems_are_true.Goals as goal

pub returns : goal.returns
returns c = found_models_of_problems_true
