use Rattle.sc_core_rules.proofs.RunLaws as law
use Rattle.sc_core_laws.proofs.run_is_one.Goals as goal

pub returns : goal.returns
returns c = law.run_is_one
