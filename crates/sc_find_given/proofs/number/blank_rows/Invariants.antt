use Rattle.std.proofs.Common.{◌≡◌, take, drop, map}
use Rattle.sc_find_given.specs.Numbering.{blank_row}
use Rattle.sc_find_given.proofs.number.blank_rows.Given as goal

abbrev pub invariant-loop-id : goal.invariant-loop-id
invariant-loop-id l = l.rows.items ≡ map (blank_row l.size l.number) (drop 1 (take l.id l.sig))
