-- The earliest rival of a clause and the first clause that ends the start, as far as clauses were looked at.
use Rattle.std.specs.Prelude.{◌≡◌, ◌<◌, ℕ, List, [], Option, Some, None, Contains}
use Rattle.sc_term.specs.declared.Numbered.{Numbered}
use Rattle.sc_input_rules.specs.declared.settings.Home.{Home}
use Rattle.sc_input_rules.specs.Problem.{Stated}
use Rattle.sc_steps.specs.declared.derivations.derivation.Derived.{Derived}
use Rattle.sc_core_rules.specs.Rewriting.{number_of}
use Rattle.sc_core_rules.specs.Order.{IsLeast}
use Rattle.sc_core_rules.specs.Conflict.{Conflicts}
use Rattle.sc_core_rules.specs.Start.{input_clauses, EndsStart, IsEarlierRival}
use Rattle.sc_keep.specs.declared.rival.Rival.{Rival}
use Rattle.sc_keep.specs.declared.start.Ending.{Ending}

-- the problem has these lists and these numbered clauses
pub record HasInput (homes : List Home) (all : List Numbered) (problem : Stated) : Type 0 where
  pub homes_are : problem.homes ≡ homes
  pub clauses_are : input_clauses problem ≡ all

-- none of the clauses is an earlier rival, or this is the one of least number, with the empty clause of the two
abbrev pub IsLeastEarlier : Stated → Numbered → List Numbered → Option Rival → Type 0
IsLeastEarlier problem n ps None = (p : Numbered) → Contains ps p → ¬ IsEarlierRival problem n p
IsLeastEarlier problem n ps (Some rival) = (m : Numbered) × IsLeast number_of (IsEarlierRival problem n) ps m × (m.number ≡ rival.number) × Conflicts n m rival.made

-- the clause is empty where nothing is made, and otherwise the empty clause of it and its least earlier rival is made
abbrev pub EndsBy : Stated → Numbered → Option Derived → Type 0
EndsBy problem n None = n.clause.literals ≡ []
EndsBy problem n (Some made) = (¬ (n.clause.literals ≡ [])) × ((m : Numbered) × IsLeast number_of (IsEarlierRival problem n) (input_clauses problem) m × Conflicts n m made)

-- the number is less than that of the ending found so far, if any
abbrev pub IsBelowEnding : ℕ → Option Ending → Type 0
IsBelowEnding n None = Unit {0}
IsBelowEnding n (Some ending) = n < ending.number

-- none of the clauses ends the start, or this is what the one of least number does
abbrev pub IsFirstEnding : Stated → List Numbered → Option Ending → Type 0
IsFirstEnding problem ps None = (p : Numbered) → Contains ps p → ¬ EndsStart problem p
IsFirstEnding problem ps (Some ending) = (n : Numbered) × IsLeast number_of (EndsStart problem) ps n × (n.number ≡ ending.number) × EndsBy problem n ending.made
