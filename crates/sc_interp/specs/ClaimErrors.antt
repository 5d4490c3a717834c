-- When claims are refused.
use Rattle.std.specs.Prelude.{List}
use Rattle.sc_interp.specs.declared.plain.Claim.{Claim}
use Rattle.sc_interp.specs.declared.version.ClaimError.{ClaimError}
use Rattle.sc_interp.specs.declared.version.ClaimError.TheVariants.{False, OutOfMemory}
use Rattle.sc_interp.specs.Structure.{Structure}
use Rattle.sc_interp.specs.Versions.{IsFirstFalse}

-- what the error says of claims in tables: nothing, where memory is wanting
abbrev pub IsCauseOfClaims : Structure → List Claim → ClaimError → Type 0
IsCauseOfClaims t claims (False claim) = IsFirstFalse t claims claim
IsCauseOfClaims t claims OutOfMemory = Unit {0}
