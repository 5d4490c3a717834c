-- Derivations over clauses by their numbers.
use Rattle.std.specs.Prelude.{◌≡◌, ℕ, List, Contains, Some}
use Rattle.sc_term.specs.declared.Clause.{Clause}
use Rattle.sc_term.specs.declared.Line.{Line}
use Rattle.sc_term.specs.declared.Numbered.{Numbered}
use Rattle.sc_term.specs.Numbering.{numbered}
use Rattle.sc_term.specs.Proof.{AreSteps, clause_of}
use Rattle.sc_steps.specs.Derivation.{IsInputAt}

-- each of these is the clause of its number
abbrev pub AllStand : List Clause → List Numbered → Type 0
AllStand clauses ps = (p : Numbered) → Contains ps p → numbered clauses p.number ≡ Some p.clause

-- the lines check over some clauses of which these are some, by their numbers
abbrev pub ChecksWith : List Numbered → List Line → Type 0
ChecksWith ps lines = (clauses : List Clause) × AllStand clauses ps × AreSteps clauses lines

-- where the one list checks over clauses of which these are some, the other does too
abbrev pub KeepsChecking : List Numbered → List Line → List Line → Type 0
KeepsChecking ps before after = (clauses : List Clause) → AllStand clauses ps → AreSteps clauses before → AreSteps clauses after

-- `input` lines of the number have this clause
abbrev pub Agrees : List Line → Numbered → Type 0
Agrees lines p = (k : ℕ) → IsInputAt lines p.number k → clause_of lines k ≡ Some p.clause
