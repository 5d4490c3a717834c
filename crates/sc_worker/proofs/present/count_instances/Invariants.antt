use Rattle.std.proofs.Common.{◌≡◌, min, take}
use Rattle.sc_cells.specs.Ground.{instance_count}
use Rattle.sc_worker.specs.FinderList.{claimed_clauses}
use Rattle.sc_worker.proofs.present.count_instances.Given as goal

abbrev pub invariant-loop-claim : goal.invariant-loop-claim
invariant-loop-claim l = l.count ≡ min (instance_count (claimed_clauses (take l.claim-index l.claims)) l.size) 200001
