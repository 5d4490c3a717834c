use Rattle.std.proofs.Common.{◌≡◌, ◌^◌, min}
use Rattle.sc_cells.proofs.listing.count_assignments.Given as goal

abbrev pub invariant-loop-variable : goal.invariant-loop-variable
invariant-loop-variable l = l.count ≡ min (l.size ^ l._variable) 1000000000
