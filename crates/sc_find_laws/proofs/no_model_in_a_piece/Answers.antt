use Rattle.sc_find_laws.proofs.ModelLaws.{no_model_in_piece}
use Rattle.sc_find_laws.proofs.no_model_in_a_piece.Goals as goal

pub returns : goal.returns
returns c = no_model_in_piece
