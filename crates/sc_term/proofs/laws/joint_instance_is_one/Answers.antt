use Rattle.sc_term.proofs.RenamingLaws as law
use Rattle.sc_term.proofs.laws.joint_instance_is_one.Goals as goal

pub returns : goal.returns
returns c = law.joint_instance_is_one
