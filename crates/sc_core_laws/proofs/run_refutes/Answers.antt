use Rattle.sc_core_rules.proofs.GoalLaws as law
use Rattle.sc_core_laws.proofs.run_refutes.Goals as goal

pub returns : goal.returns
returns c = law.run_refutes
