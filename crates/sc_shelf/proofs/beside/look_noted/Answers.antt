use Rattle.sc_shelf.proofs.LookLaws.{looked_once}
use Rattle.sc_shelf.proofs.beside.look_noted.Goals as goal

pub returns-clause-looked : goal.returns-clause-looked
returns-clause-looked c = looked_once c.args.window.now c.look.new.self c.look.ensures.grows c.in_ok-look.ensures.looks
