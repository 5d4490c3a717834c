-- The start of a run: the input clauses go to their lists, and the first empty clause or conflict of units ends it.
use Rattle.std.specs.Prelude.{◌≡◌, ◌<◌, ◌⊎◌, ℕ, ◌+◌, List, [], ◌∷◌, Contains, Option, Some, None, length}
use Rattle.sc_term.specs.declared.Clause.{Clause}
use Rattle.sc_term.specs.Numbering.{numbered}
use Rattle.sc_input_rules.specs.Problem.{Stated}
use Rattle.sc_term.specs.declared.Numbered.{Numbered}
use Rattle.sc_input_rules.specs.declared.settings.Home.{Home}
use Rattle.sc_input_rules.specs.declared.settings.Home.TheVariants.{Usable, Sos, Passive, Demodulators}
use Rattle.sc_steps.specs.declared.derivations.derivation.Derived.{Derived}
use Rattle.sc_core_rules.specs.Rewriting.{number_of}
use Rattle.sc_core_rules.specs.Book.{Book, with_derived}
use Rattle.sc_core_rules.specs.Conflict.{Conflicts}
use Rattle.sc_core_rules.specs.Order.{Where, IsFilter, IsLeast}

-- the clauses with their numbers from n on
abbrev pub numbered_from : ℕ → List Clause → List Numbered
numbered_from n [] = []
numbered_from n (c ∷ cs) = record { number = n; clause = c } ∷ numbered_from (n + 1) cs

-- the input clauses with their numbers
abbrev pub input_clauses : Stated → List Numbered
input_clauses problem = numbered_from 1 problem.inputs

-- the clause stands in this list of the input
abbrev pub IsAtHome : Stated → Home → Numbered → Type 0
IsAtHome problem home p = numbered problem.homes p.number ≡ Some home

-- ps are the clauses of this list, in order
abbrev pub AreAtHome : Stated → Home → List Numbered → Type 0
AreAtHome problem home ps = IsFilter (IsAtHome problem home) (input_clauses problem) ps

-- each list of the book is that of the input, and nothing is derived
pub record OpensBook (problem : Stated) (book : Book) : Type 0 where
  pub usable : AreAtHome problem Usable book.usable
  pub sos : AreAtHome problem Sos book.sos
  pub passive : AreAtHome problem Passive book.passive
  pub demods : AreAtHome problem Demodulators book.demods
  pub no_derived : book.derived ≡ []
  pub no_kept : book.kept ≡ []

-- m is an earlier clause that conflicts with n; neither is a demodulator
pub record IsEarlierRival (problem : Stated) (n m : Numbered) : Type 0 where
  pub earlier : m.number < n.number
  pub n_no_demodulator : ¬ IsAtHome problem Demodulators n
  pub m_no_demodulator : ¬ IsAtHome problem Demodulators m
  pub made : Derived
  pub conflicts : Conflicts n m made

-- the clause is empty, or conflicts with an earlier one
abbrev pub EndsStart : Stated → Numbered → Type 0
EndsStart problem n = (n.clause.literals ≡ []) ⊎ ((m : Numbered) × Contains (input_clauses problem) m × IsEarlierRival problem n m)

-- the book with the empty clause that clause n gives, and its number
abbrev pub EndsWith : Stated → Book → Numbered → Book → Option ℕ → Type 0
EndsWith problem opened n book goal =
    Where (n.clause.literals ≡ [])
    ((book ≡ opened) × (goal ≡ Some n.number))
    ((m : Numbered) × (made : Derived) × IsLeast number_of (IsEarlierRival problem n) (input_clauses problem) m × Conflicts n m made
    × (book ≡ with_derived opened made.clause made.lines) × (goal ≡ Some (length problem.inputs + 1)))

-- the book after the start, and the number of the empty clause where that ends the run
pub record Starts (problem : Stated) (book : Book) (goal : Option ℕ) : Type 0 where
  pub opened : Book
  pub opens : OpensBook problem opened
  pub ends :
      Where ((n : Numbered) × Contains (input_clauses problem) n × EndsStart problem n)
      ((n : Numbered) × IsLeast number_of (EndsStart problem) (input_clauses problem) n × EndsWith problem opened n book goal)
      ((book ≡ opened) × (goal ≡ None))
