use Rattle.sc_world.proofs.EventLaws as law
use Rattle.sc_world.proofs.text_is_of_events.Goals as goal

pub returns : goal.returns
returns c = law.text_is_of_events
