use Rattle.std.proofs.Common.{◌-◌, ◌^◌, length}
use Rattle.sc_interp.specs.Assignments.{AreElements, assignment_number, HoldsBefore}
use Rattle.sc_interp.proofs.satisfied.holds_throughout.Given as goal

abbrev pub invariant-assignments : goal.invariant-assignments
invariant-assignments l = record {
  elements : AreElements l.size l.values;
  before : HoldsBefore l.size l.tables l.c l.values;
}

abbrev pub decreases-assignments : goal.decreases-assignments
decreases-assignments l = l.size ^ length l.values - assignment_number l.size l.values
