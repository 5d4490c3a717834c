use Rattle.std.proofs.Common.{vec_len}
use Rattle.sc_world.proofs.opening.end_all.Given as goal

abbrev pub decreases-loop-actor : goal.decreases-loop-actor
decreases-loop-actor g l = vec_len l.actors
