use Rattle.std.proofs.Common.{take, drop}
use Rattle.sc_index.specs.Walking.{Follows}
use Rattle.sc_index.proofs.walking.follow.Given as goal

abbrev pub invariant-loop-edge : goal.invariant-loop-edge
invariant-loop-edge l = Follows l.sides.stored l.sides.asked l.query (take l.edge-index l.edges) l.spot.pending (drop l.spot.at l.query) l.initial.tasks l.tasks
