use Rattle.std.proofs.Common.{◌≡◌, ◌-◌, List, Some}
use Rattle.sc_term.specs.declared.Line.{Line}
use Rattle.sc_term.specs.Clause.{IsWithinLimits}
use Rattle.sc_core_rules.specs.Rewriting.{Rewrites}
use Rattle.sc_steps.specs.Derivation.{last_clause}
use Rattle.sc_demod.specs.Standing.{KeepsChecking}
use Rattle.sc_demod.proofs.rewriting.rewrite_by.Given as goal

abbrev pub invariant-loop-turn : goal.invariant-loop-turn
invariant-loop-turn l = record {
  ends : last_clause l.lines ≡ Some l.clause;
  within : IsWithinLimits l.clause;
  checks : KeepsChecking l.demods l.fn.made.lines l.lines;
  chain : (z : List Line) → Rewrites l.demods (l.limit - l._turn) l.lines z → Rewrites l.demods l.limit l.fn.made.lines z;
}
