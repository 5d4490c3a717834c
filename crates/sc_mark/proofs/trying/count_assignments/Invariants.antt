use Rattle.std.proofs.Common.{◌≡◌, ◌^◌, min}
use Rattle.sc_mark.proofs.trying.count_assignments.Given as goal

abbrev pub invariant-loop-variable : goal.invariant-loop-variable
invariant-loop-variable l = l.count ≡ min (l.size ^ l._variable) 4097
