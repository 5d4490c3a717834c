use Rattle.std.proofs.Common.{◌≡◌, map, take}
use Rattle.sc_interp.specs.declared.plain.Claim.{Claim}
use Rattle.sc_world.proofs.printed.claim_numbers.Given as goal

abbrev pub invariant-loop-claim : goal.invariant-loop-claim
invariant-loop-claim l = l.numbers ≡ map (λ (claim : Claim). claim.number) (take l.claim-index l.claims)
