use Rattle.sc_world.specs.Acting.{Closed, UptoBoth}
use Rattle.sc_world.proofs.closing.close_all.Given as goal

abbrev pub invariant-loop-i : goal.invariant-loop-i
invariant-loop-i g l = UptoBoth Closed l.initial.actors l.initial.windows l.actors l.windows l.i
