use Rattle.std.proofs.Common.{arith}
use Rattle.sc_world.specs.Abreast.{IsLook}
use Rattle.sc_world.proofs.Stepping.{upto_end}
use Rattle.sc_world.proofs.turns.look_all.Goals as goal

pub returns : goal.returns
returns c = upto_end IsLook _ _ c.loop-window.window-index c.loop-window.auto.windows (omega (arith, c.loop-window.auto.window-index-end, c.loop-window.auto.windows, c.loop-window-test.false)) c.loop-window.invariant
