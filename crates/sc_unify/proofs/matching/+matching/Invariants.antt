use Rattle.std.proofs.Common.{◌≡◌, map, take, length}
use Rattle.sc_term.specs.Term.{joined, term_under, term_variables}
use Rattle.sc_unify.specs.Bindings.{bindings}
use Rattle.sc_unify.specs.Matching.{IsMatched}
use Rattle.sc_unify.proofs.matching.+matching.Given as goal

abbrev pub invariant-match_terms-loop-i : goal.invariant-match_terms-loop-i
invariant-match_terms-loop-i l = record {
  long : length l.patterns ≡ length l.targets;
  matched : IsMatched (bindings l.initial.bound.items) (bindings l.bound.items) (λ s. map (term_under s) (take l.i l.patterns) ≡ take l.i l.targets) (joined (map term_variables (take l.i l.patterns)));
}
