use Rattle.std.proofs.Common.{◌≡◌, ◌≤◌, ◌*◌, take}
use Rattle.sc_interp.specs.Structure.{entry_count}
use Rattle.sc_interp.proofs.tables.count_entries.Given as goal

abbrev pub invariant-loop-number : goal.invariant-loop-number
invariant-loop-number l = (l.count ≡ entry_count (take l.number l.sig) l.size) × (l.count ≤ l.number * 16777216)
