use Rattle.std.proofs.Common.{◌≡◌, take, drop, map}
use Rattle.sc_interp.specs.Structure.{zero_table}
use Rattle.sc_interp.proofs.tables.zero_tables.Given as goal

abbrev pub invariant-loop-number : goal.invariant-loop-number
invariant-loop-number l = l.tables.items ≡ map (zero_table l.size) (drop 1 (take l.number l.sig))
