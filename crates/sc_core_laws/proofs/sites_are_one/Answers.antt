use Rattle.sc_core_rules.proofs.OneMeant as law
use Rattle.sc_core_laws.proofs.sites_are_one.Goals as goal

pub returns : goal.returns
returns c = law.sites_are_one
