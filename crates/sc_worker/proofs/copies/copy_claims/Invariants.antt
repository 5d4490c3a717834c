use Rattle.std.proofs.Common.{◌≡◌, take}
use Rattle.sc_worker.proofs.copies.copy_claims.Given as goal

abbrev pub invariant-loop-claim : goal.invariant-loop-claim
invariant-loop-claim l = l.copies ≡ take l.claim-index l.claims
