use Rattle.std.proofs.Common.{◌≡◌, min, take}
use Rattle.sc_cells.specs.Ground.{instance_count}
use Rattle.sc_cells.proofs.listing.count_instances.Given as goal

abbrev pub invariant-loop-clause : goal.invariant-loop-clause
invariant-loop-clause l = l.count ≡ min (instance_count (take l.clause-index l.clauses) l.size) 1000000000
