-- Derived clauses and their derivations. In a derivation `input n` names clause number n: the input clauses have the
-- first numbers, from 1, and the derived clauses the next.
use Rattle.std.specs.Prelude.{◌≡◌, ◌<◌, ◌≤◌, ℕ, ◌+◌, ◌-◌, List, [], ◌++◌, Option, Some, IsSomeAnd, length, map, take}
use Rattle.sc_term.specs.declared.Clause.{Clause}
use Rattle.sc_term.specs.declared.Line.{Line}
use Rattle.sc_term.specs.declared.Step.TheVariants.{Input}
use Rattle.sc_term.specs.Numbering.{numbered}
use Rattle.sc_term.specs.Proof.{AreSteps, IsStepAt, clause_of}
use Rattle.sc_steps.specs.declared.derivations.derivation.Derived.{Derived}

-- the clauses that have a number, in its order
abbrev pub all_clauses : List Clause → List Derived → List Clause
all_clauses inputs derived = inputs ++ map (λ (d : Derived). d.clause) derived

-- the derived clause of number n
abbrev pub derived_at : List Clause → List Derived → ℕ → Option Derived
derived_at inputs derived n = numbered derived (n - length inputs)

-- line k is `input n`
abbrev pub IsInputAt : List Line → ℕ → ℕ → Type 0
IsInputAt lines n k = IsSomeAnd (numbered lines k) (λ line. line.step ≡ Input n)

-- the clause of the last line
abbrev pub last_clause : List Line → Option Clause
last_clause lines = clause_of lines (length lines)

-- there is a line, and every line is a step from the lines before it
pub record IsDerivation (clauses : List Clause) (lines : List Line) : Type 0 where
  pub some : 0 < length lines
  pub steps : AreSteps clauses lines

-- the first line that isn't a step, or line 1 where there is none
pub record IsFirstFaultOfDerivation (clauses : List Clause) (lines : List Line) (k : ℕ) : Type 0 where
  pub earlier : (i : ℕ) → i + 1 < k → IsStepAt clauses lines (i + 1)
  pub at : (k ≤ length lines → ¬ IsStepAt clauses lines k) × (length lines < k → lines ≡ [])
  pub within : (0 < k) × (k ≤ length lines + 1)

-- the derivation is one from the clauses, and ends with the derived clause
pub record IsDerivedFrom (clauses : List Clause) (d : Derived) : Type 0 where
  pub steps : AreSteps clauses d.lines
  pub ends : last_clause d.lines ≡ Some d.clause

-- each derived clause is so from the clauses of smaller number
abbrev pub AreDerived : List Clause → List Derived → Type 0
AreDerived inputs derived =
    (n : ℕ) (d : Derived) → derived_at inputs derived n ≡ Some d → IsDerivedFrom (take (n - 1) (all_clauses inputs derived)) d
