use Rattle.std.proofs.Common.{◌≡◌, ◌<◌, ◌≤◌, ◌+◌, ◌-◌, ℕ, List, length, Some}
use Rattle.sc_term.specs.declared.Line.{Line}
use Rattle.sc_term.specs.Clause.{weight, depth}
use Rattle.sc_core_rules.specs.Order.{Exhausts}
use Rattle.sc_core_rules.specs.Simplification.{IsRemovable, DeletesOnce}
use Rattle.sc_steps.specs.Derivation.{last_clause}
use Rattle.sc_resolve.specs.ByNumber.{seen}
use Rattle.sc_demod.specs.Standing.{KeepsChecking}
use Rattle.sc_demod.proofs.unit.unit_delete_by.Given as goal

abbrev pub invariant-loop-at : goal.invariant-loop-at
invariant-loop-at l = record {
  within : l.at ≤ length l.clause.literals;
  ends : last_clause l.lines ≡ Some l.clause;
  light : weight l.clause ≤ 10000;
  shallow : depth l.clause ≤ 256;
  none : (b : ℕ) → b < l.at + 1 → ¬ IsRemovable (seen l.units) l.clause b;
  checks : KeepsChecking (seen l.units) l.fn.made.lines l.lines;
  chain : (z : List Line) → Exhausts (DeletesOnce (seen l.units)) l.lines z → Exhausts (DeletesOnce (seen l.units)) l.fn.made.lines z;
}

abbrev pub decreases-loop-at : goal.decreases-loop-at
decreases-loop-at l = length l.clause.literals - l.at
