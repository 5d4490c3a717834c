use Rattle.std.proofs.Common.{◌≡◌, ◌+◌, ◌≤◌}
use Rattle.sc_smallest.specs.Smallest.{IsReached}
use Rattle.sc_smallest.proofs.sizes.find_smallest_by.Given as goal

abbrev pub invariant-loop-size : goal.invariant-loop-size
invariant-loop-size g l = record {
  end : l.size-end ≡ l.to + 1;
  within : l.size ≤ l.to + 1;
  reached : IsReached (record { sig = l.sig; clauses = l.clauses }) l.from l.size;
}
