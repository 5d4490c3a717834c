use Rattle.std.proofs.Common.{◌≡◌, List, Some}
use Rattle.sc_term.specs.declared.Clause.{Clause}
use Rattle.sc_term.specs.declared.Line.{Line}
use Rattle.sc_term.specs.Numbering.{numbered}
use Rattle.sc_steps.specs.Derivation.{all_clauses}
use Rattle.sc_steps.specs.Splice.{IsSplice}
use Rattle.sc_steps.proofs.derivations.source.source.Given as goal

abbrev pub invariant-loop-m : goal.invariant-loop-m
invariant-loop-m l = record {
  number : (c : Clause) × (numbered (all_clauses l.inputs l.derived) l.n ≡ Some c);
  proof : (lines : List Line) → IsSplice l.inputs l.derived l.n lines → IsSplice l.inputs l.derived l.goal lines;
}

abbrev pub decreases-loop-m : goal.decreases-loop-m
decreases-loop-m l = l.n
