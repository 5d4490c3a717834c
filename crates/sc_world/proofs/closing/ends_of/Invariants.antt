use Rattle.std.proofs.Common.{◌≡◌, take}
use Rattle.sc_world.specs.Acting.{ends_of}
use Rattle.sc_world.proofs.closing.ends_of.Given as goal

abbrev pub invariant-loop-actor : goal.invariant-loop-actor
invariant-loop-actor l = l.ends ≡ ends_of (take l.actor-index l.actors)
