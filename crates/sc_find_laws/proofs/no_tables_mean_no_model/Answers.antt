use Rattle.sc_find_laws.proofs.ModelLaws.{no_tables_no_model}
use Rattle.sc_find_laws.proofs.no_tables_mean_no_model.Goals as goal

pub returns : goal.returns
returns c = no_tables_no_model
