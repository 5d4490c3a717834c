use Rattle.std.proofs.Common.{◌<◌, ◌+◌, ◌^◌, List, length}
use Rattle.std.specs.Prelude.{IsSomeAnd}
use Rattle.sc_term.specs.declared.Line.{Line}
use Rattle.sc_steps.specs.Derivation.{last_clause}
use Rattle.sc_core_rules.specs.Order.{Exhausts}
use Rattle.sc_core_rules.specs.Simplification.{MergesOnce}
use Rattle.sc_keep.proofs.MergeLaws.{last_length}
use Rattle.sc_keep.proofs.merge.merge_all.Given as goal

abbrev pub invariant-loop-line : goal.invariant-loop-line
invariant-loop-line l = record {
  short : IsSomeAnd (last_clause l.lines) (λ c. length l.lines + length c.literals < 2 ^ 32);
  leads : (after : List Line) → Exhausts MergesOnce l.lines after → Exhausts MergesOnce l.initial.lines after;
}

abbrev pub decreases-loop-line : goal.decreases-loop-line
decreases-loop-line l = last_length l.lines
