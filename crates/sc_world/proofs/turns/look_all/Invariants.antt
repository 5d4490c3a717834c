use Rattle.sc_world.specs.Abreast.{IsLook}
use Rattle.sc_world.specs.Abreast.{Upto}
use Rattle.sc_world.proofs.turns.look_all.Given as goal

abbrev pub invariant-loop-window : goal.invariant-loop-window
invariant-loop-window l = Upto IsLook l.initial.windows l.windows l.window-index
