use Rattle.std.proofs.Common.{rules}
use Rattle.sc_world.proofs.BesideLaws.{closed_both}
use Rattle.sc_world.proofs.closing.close_one.Goals as goal

pub returns : goal.returns
returns g c = let told = c.close.ensures in closed_both _ _ _ _ c.close.result told.all told.looks told.grows (search rules)
