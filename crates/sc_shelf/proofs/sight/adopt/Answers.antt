use Rattle.sc_shelf.proofs.Steps.{stays}
use Rattle.sc_shelf.proofs.sight.adopt.Goals as goal

pub enter_as-requires : goal.enter_as-requires
enter_as-requires c x = stays _ _ x
