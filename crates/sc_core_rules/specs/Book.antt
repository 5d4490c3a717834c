-- What the prover keeps: its clauses, their lists and the demodulators.
use Rattle.std.specs.Prelude.{All, Some, ◌≡◌, ℕ, ◌+◌, List, [], ◌∷◌, ◌++◌, length, filter, not, nat_eq}
use Rattle.std.specs.List.{list_any}
use Rattle.sc_term.specs.declared.Clause.{Clause}
use Rattle.sc_term.specs.declared.Line.{Line}
use Rattle.sc_term.specs.Clause.{weight}
use Rattle.sc_term.specs.Numbering.{numbered}
use Rattle.sc_core_rules.specs.Rewriting.{IsDemodulator}
use Rattle.sc_input_rules.specs.Problem.{Stated}
use Rattle.sc_term.specs.declared.Numbered.{Numbered}
use Rattle.sc_steps.specs.declared.derivations.derivation.Derived.{Derived}
use Rattle.sc_steps.specs.Derivation.{all_clauses, AreDerived}
use Rattle.sc_core_rules.specs.declared.row.KeptRow.{KeptRow}

-- the derived clauses, the four lists, and the rows of kept clauses
pub record Book : Type 0 where
  -- the derived clauses; their numbers follow those of the input clauses
  pub derived : List Derived
  pub usable : List Numbered
  -- the set of support, in order of age
  pub sos : List Numbered
  pub passive : List Numbered
  pub demods : List Numbered
  pub kept : List KeptRow

-- every clause that has a number, in the order of the numbers
abbrev pub numbered_clauses : Stated → Book → List Clause
numbered_clauses problem book = all_clauses problem.inputs book.derived

-- the number that the next derived clause takes
abbrev pub next_number : Stated → Book → ℕ
next_number problem book = length (numbered_clauses problem book) + 1

-- usable, sos and passive: these are live
abbrev pub live : Book → List Numbered
live book = book.usable ++ book.sos ++ book.passive

-- the weight by which clauses are dropped, chosen and recorded
abbrev pub weight_in : Stated → Clause → ℕ
weight_in problem c = weight c

-- the clause with its derivation takes the next number
abbrev pub with_derived : Book → Clause → List Line → Book
with_derived book c lines = record book { derived = book.derived ++ record { clause = c; lines = lines } ∷ [] }

-- the clauses without those that are gone
abbrev pub leaving_out : List Numbered → List Numbered → List Numbered
leaving_out gone ps = filter (λ (p : Numbered). not (list_any (λ (g : Numbered). nat_eq p.number g.number) gone)) ps

-- usable and sos without those that are gone
abbrev pub with_deleted : Book → List Numbered → Book
with_deleted book gone = record book { usable = leaving_out gone book.usable; sos = leaving_out gone book.sos }

-- each clause of a list is the one that has its number, and the demodulators are demodulators
pub record IsSound (problem : Stated) (book : Book) : Type 0 where
  pub under_numbers : All (λ p. numbered (numbered_clauses problem book) p.number ≡ Some p.clause) (live book ++ book.demods)
  pub demodulators : All (λ d. IsDemodulator d.clause) book.demods

-- each derived clause follows by its derivation from the clauses of smaller number
abbrev pub IsDerived : Stated → Book → Type 0
IsDerived problem book = AreDerived problem.inputs book.derived
