use Rattle.std.proofs.Common.{◌≡◌, take}
use Rattle.sc_worker.specs.FinderList.{claimed_clauses}
use Rattle.sc_worker.proofs.copies.copy_clauses.Given as goal

abbrev pub invariant-loop-claim : goal.invariant-loop-claim
invariant-loop-claim l = l.made ≡ claimed_clauses (take l.claim-index l.claims)
