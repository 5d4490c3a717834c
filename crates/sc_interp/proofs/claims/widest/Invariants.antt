use Rattle.std.proofs.Common.{◌≤◌, take}
use Rattle.std.specs.List.{All}
use Rattle.sc_term.specs.Clause.{width}
use Rattle.sc_interp.specs.declared.plain.Claim.{Claim}
use Rattle.sc_interp.proofs.claims.widest.Given as goal

abbrev pub invariant-loop-claim : goal.invariant-loop-claim
invariant-loop-claim l = All (λ (claim : Claim). width claim.clause ≤ l.widest) (take l.claim-index l.claims)
