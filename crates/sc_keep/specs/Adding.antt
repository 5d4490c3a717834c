-- The line of a clause's part in a joint instance.
use Rattle.std.specs.Prelude.{◌≡◌, ◌≢◌, ◌≤◌, ◌+◌, ℕ, List, Some, length}
use Rattle.sc_term.specs.declared.Term.{Term}
use Rattle.sc_term.specs.declared.Clause.{Clause}
use Rattle.sc_term.specs.declared.Line.{Line}
use Rattle.sc_term.specs.declared.Step.TheVariants.{Instance}
use Rattle.sc_term.specs.declared.Numbered.{Numbered}
use Rattle.sc_term.specs.Clause.{instance}
use Rattle.sc_term.specs.Proof.{clause_of}
use Rattle.sc_steps.specs.Derivation.{IsInputAt}
use Rattle.sc_core_rules.specs.Derivation.{AddsPart}

-- the line has another clause, the instance of the clause of line `of` by the terms
pub record IsPartLine (c : Clause) (terms : List Term) (of : ℕ) (line : Line) : Type 0 where
  pub other : instance terms c ≢ c
  pub step : line.step ≡ Instance of terms
  pub clause : line.clause ≡ instance terms c

-- line k has the part of p, by lines that are added at the end, two at most; no other clause is named in them
pub record AddedPart (before : List Line) (p : Numbered) (part : Clause) (after : List Line) (k : ℕ) : Type 0 where
  pub adds : AddsPart before p part after k
  pub there : clause_of after k ≡ Some part
  pub stays : (j : ℕ) (c : Clause) → clause_of before j ≡ Some c → clause_of after j ≡ Some c
  pub few : length after ≤ length before + 2
  pub inputs : (q : ℕ) → q ≢ p.number → ((j : ℕ) → ¬ IsInputAt before q j) → (j : ℕ) → ¬ IsInputAt after q j
