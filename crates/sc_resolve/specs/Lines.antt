-- The lines of a derivation as they are put together.
use Rattle.std.specs.Prelude.{◌≡◌, ◌≤◌, ◌+◌, ◌⊎◌, ℕ, List, [], ◌∷◌, ◌++◌, Some, length}
use Rattle.sc_term.specs.declared.Clause.{Clause}
use Rattle.sc_term.specs.declared.Line.{Line}
use Rattle.sc_term.specs.declared.Step.{Step}
use Rattle.sc_term.specs.declared.Numbered.{Numbered}
use Rattle.sc_term.specs.Proof.{clause_of}
use Rattle.sc_steps.specs.Derivation.{IsInputAt}
use Rattle.sc_core_rules.specs.Derivation.{AddsInput, AddsPart}

-- the line is added at the end, and has this number
pub record IsAdded (before : List Line) (step : Step) (c : Clause) (after : List Line) (k : ℕ) : Type 0 where
  pub grown : after ≡ before ++ record { step = step; clause = c } ∷ []
  pub last : k ≡ length after

-- a line that names the clause has it
abbrev pub IsKnown : List Line → Numbered → Type 0
IsKnown lines p = (k : ℕ) → IsInputAt lines p.number k → clause_of lines k ≡ Some p.clause

-- what stays, and what is named, where lines are added for the clause
pub record Keeps (before : List Line) (p : Numbered) (after : List Line) : Type 0 where
  pub same : (k : ℕ) (c : Clause) → clause_of before k ≡ Some c → clause_of after k ≡ Some c
  pub named : (n k : ℕ) → IsInputAt after n k → IsInputAt before n k ⊎ ((n ≡ p.number) × (clause_of after k ≡ Some p.clause))

-- line k has the clause by its number
pub record HasInput (before : List Line) (p : Numbered) (after : List Line) (k : ℕ) : Type 0 where
  pub adds : AddsInput before p after k
  pub there : clause_of after k ≡ Some p.clause
  pub few : length after ≤ length before + 1
  pub keeps : Keeps before p after

-- line k has the part of the clause
pub record HasPart (before : List Line) (p : Numbered) (part : Clause) (after : List Line) (k : ℕ) : Type 0 where
  pub adds : AddsPart before p part after k
  pub there : clause_of after k ≡ Some part
  pub few : length after ≤ length before + 2
  pub keeps : Keeps before p after
