use Rattle.sc_world.proofs.WorldOne.{one_machine}
use Rattle.sc_world.proofs.world.events_are_one.Goals as goal

pub returns : goal.returns
returns c = one_machine
