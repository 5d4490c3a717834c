use Rattle.sc_core_rules.proofs.DerivationLaws as law
use Rattle.sc_core_laws.proofs.conclusion_is_one.Goals as goal

pub returns : goal.returns
returns c = law.conclusion_is_one
