use Rattle.std.proofs.Common.{◌≡◌, ◌≤◌, ◌*◌, ◌++◌, drop}
use Rattle.sc_term.specs.JointInstance.{apart, apart_above}
use Rattle.sc_hyper.specs.Making.{clauses_of}
use Rattle.sc_hyper.proofs.pairing.apart.Given as goal

abbrev pub invariant-loop-parent : goal.invariant-loop-parent
invariant-loop-parent l = record {
  low : l.low ≤ 10000 * l.parent-index;
  moved : l.moved ++ apart_above l.low (clauses_of (drop l.parent-index l.parents)) ≡ apart (clauses_of l.parents);
}
