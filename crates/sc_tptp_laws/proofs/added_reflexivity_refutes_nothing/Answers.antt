use Rattle.sc_tptp_laws.proofs.AddedLaws.{refuted_without}
use Rattle.sc_tptp_laws.proofs.added_reflexivity_refutes_nothing.Goals as goal

pub returns : goal.returns
returns c = refuted_without
