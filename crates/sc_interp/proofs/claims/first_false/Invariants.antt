use Rattle.std.proofs.Common.{take}
use Rattle.sc_interp.specs.Versions.{AreTrue}
use Rattle.sc_interp.proofs.claims.first_false.Given as goal

abbrev pub invariant-loop-at : goal.invariant-loop-at
invariant-loop-at l = AreTrue (record { size = l.size; tables = l.tables }) (take l.at l.claims)
