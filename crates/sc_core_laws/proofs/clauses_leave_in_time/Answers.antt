use Rattle.sc_core_laws.proofs.InTime.{leaves_in_time}
use Rattle.sc_core_laws.proofs.clauses_leave_in_time.Goals as goal

pub returns : goal.returns
returns c = leaves_in_time
