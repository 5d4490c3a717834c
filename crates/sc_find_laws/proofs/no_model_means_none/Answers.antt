use Rattle.sc_find_laws.proofs.ModelLaws.{no_model_none}
use Rattle.sc_find_laws.proofs.no_model_means_none.Goals as goal

pub returns : goal.returns
returns c = no_model_none
