use Rattle.sc_world.proofs.EndLaws.{ends_done}
use Rattle.sc_world.proofs.running.end_of.Goals as goal

pub returns-then-not-has_more : goal.returns-then-not-has_more
returns-then-not-has_more c = ends_done c.args.chooser.now c.has_more.result c.has_more.ensures c.if-not-has_more.true
