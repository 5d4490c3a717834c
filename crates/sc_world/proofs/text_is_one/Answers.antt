use Rattle.sc_world.proofs.OneText as law
use Rattle.sc_world.proofs.text_is_one.Goals as goal

pub returns : goal.returns
returns c = law.one_text
