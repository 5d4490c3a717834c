use Rattle.sc_core_laws.proofs.RowsTrue as law
use Rattle.sc_core_laws.proofs.rows_are_true.Goals as goal

pub returns : goal.returns
returns c = law.rows_are_true
