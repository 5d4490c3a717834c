use Rattle.std.proofs.Common.{◌≡◌, ◌≤◌}
use Rattle.sc_term.specs.Term.{term_under}
use Rattle.sc_unify.specs.Bindings.{bindings, finished, cost}
use Rattle.sc_unify.proofs.bound.walk.Given as goal

abbrev pub invariant-loop-term : goal.invariant-loop-term
invariant-loop-term l = record {
  same : term_under (finished (bindings l.bound)) l.term ≡ term_under (finished (bindings l.bound)) l.initial.term;
  less : cost (bindings l.bound) l.term ≤ cost (bindings l.bound) l.initial.term;
}

abbrev pub decreases-loop-term : goal.decreases-loop-term
decreases-loop-term l = cost (bindings l.bound) l.term
