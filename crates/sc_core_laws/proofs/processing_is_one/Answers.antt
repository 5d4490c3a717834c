use Rattle.sc_core_rules.proofs.ProcessLaws as law
use Rattle.sc_core_laws.proofs.processing_is_one.Goals as goal

pub returns : goal.returns
returns c = law.processing_is_one
