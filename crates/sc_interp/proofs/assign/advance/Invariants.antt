use Rattle.std.proofs.Common.{◌≡◌, ◌+◌, ◌*◌, ◌^◌, ◌++◌, drop, replicate}
use Rattle.sc_interp.specs.Assignments.{AreElements, assignment_number}
use Rattle.sc_interp.proofs.assign.advance.Given as goal

abbrev pub invariant-loop-value : goal.invariant-loop-value
invariant-loop-value l = record {
  elements : AreElements l.size l.values;
  carried : l.values ≡ replicate l.value-index 0 ++ drop l.value-index l.initial.values;
  number : assignment_number l.size l.initial.values + 1 ≡ l.size ^ l.value-index * (assignment_number l.size (drop l.value-index l.initial.values) + 1);
}
