-- What the prover's book is seen as, and what it keeps.
use Rattle.std.specs.Prelude.{All, Bool, true, List, ◌≡◌, []}
use Rattle.sc_term.specs.declared.Clause.{Clause}
use Rattle.sc_term.specs.Clause.{IsWithinLimits}
use Rattle.sc_term.specs.declared.symbol.Symbol.{Symbol}
use Rattle.sc_input_rules.specs.Problem.{Stated}
use Rattle.sc_input_rules.specs.WellFormed.{IsProblem}
use Rattle.sc_input_rules.specs.declared.settings.Flags.{Flags}
use Rattle.sc_input_rules.specs.declared.settings.Params.{Params}
use Rattle.sc_input_rules.specs.declared.settings.Home.{Home}
use Rattle.sc_core_rules.specs.Book.{Book, IsDerived, IsSound, next_number, numbered_clauses}
use Rattle.sc_keep.specs.declared.lists.Lists.{Lists}
use Rattle.sc_keep.specs.Lists.{AreReady, book_of}

-- a problem, its book, and whether the book is whole: want of memory may have left it halfway
pub record State : Type 0 where
  pub problem : Stated
  pub book : Book
  pub whole : Bool

-- every clause that has a number is within the limits
abbrev pub AreAllWithin : Stated → Book → Type 0
AreAllWithin problem book = All (λ (c : Clause). IsWithinLimits c) (numbered_clauses problem book)

-- what a book of these lists keeps: while it is whole, each derived clause follows by its derivation, each clause of a
-- list is the one that has its number, the lists are ready for a conclusion, and all clauses are within the limits
pub record IsState (lists : Lists) (state : State) : Type 0 where
  pub problem : IsProblem state.problem
  pub derived : state.whole ≡ true → IsDerived state.problem state.book
  pub sound : state.whole ≡ true → IsSound state.problem state.book
  pub ready : state.whole ≡ true → AreReady lists (next_number state.problem state.book)
  pub within : state.whole ≡ true → AreAllWithin state.problem state.book

-- the book before the start
abbrev pub empty_book : Book
empty_book = record { derived = []; usable = []; sos = []; passive = []; demods = []; kept = [] }

-- the parts as a state
abbrev pub state_of : List Symbol → List Clause → List Home → Flags → Params → Lists → Bool → State
state_of symbols inputs homes flags params lists whole = record {
  problem = record { symbols = symbols; inputs = inputs; homes = homes; flags = flags; params = params };
  book = book_of lists;
  whole = whole;
}
