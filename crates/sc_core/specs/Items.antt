-- One item of the work list.
use Rattle.std.specs.Prelude.{◌≡◌, ◌≢◌, ◌⊎◌, ◌++◌, ℕ, List, All, Contains, Option, Some, None}
use Rattle.sc_term.specs.declared.Clause.{Clause}
use Rattle.sc_term.specs.declared.Numbered.{Numbered}
use Rattle.sc_term.specs.Numbering.{numbered}
use Rattle.sc_resolve.specs.Kept.{IsKept}
use Rattle.sc_input_rules.specs.Problem.{Stated}
use Rattle.sc_steps.specs.declared.derivations.derivation.Derived.{Derived}
use Rattle.sc_core_rules.specs.declared.fate.Fate.TheVariants.{Empty}
use Rattle.sc_core_rules.specs.declared.fate.Processed.{Processed}
use Rattle.sc_core_rules.specs.Book.{Book}
use Rattle.sc_core_rules.specs.Inference.{Inference}
use Rattle.sc_core_rules.specs.Processing.{Processes}
use Rattle.sc_core_rules.specs.Sites.{Site, Infers}
use Rattle.sc_core_rules.specs.WorkList.{Item, Gives}

-- the clauses that were usable when the turn began: the given clause is one of them, they are such as the book keeps,
-- and each still is the one that has its number
pub record AreUsable (clauses : List Clause) (given : Numbered) (usable : List Numbered) : Type 0 where
  pub listed : Contains usable given
  pub kept : All (λ p. IsKept p.clause) usable
  pub stand : All (λ p. numbered clauses p.number ≡ Some p.clause) usable

-- and the site is one of the given clause with them
pub record IsSiteOf (clauses : List Clause) (given : Numbered) (usable : List Numbered) (site : Site) : Type 0 where
  pub are_usable : AreUsable clauses given usable
  pub inference : (i : Inference) × Infers given usable site i

-- a clause has the number
abbrev pub HasClause : List Clause → ℕ → Type 0
HasClause clauses n = (c : Clause) × (numbered clauses n ≡ Some c)

-- the item's conclusion is processed, with this outcome
pub record IsProcessed (problem : Stated) (turn : ℕ) (given : Numbered) (usable : List Numbered) (passed : Site → Type 0) (old : Book) (item : Item) (new : Book) (out : Processed) : Type 0 where
  pub made : Derived
  pub gives : Gives problem old given usable passed item made
  pub processes : Processes problem old made.lines turn new out

-- the item is worked: it gives nothing, and the book and the numbers that wait stay; or its conclusion is processed, and
-- the numbers that come back join the end of those that wait. The number of the empty clause is told, if that was found
abbrev pub IsWorked : Stated → ℕ → Numbered → List Numbered → (Site → Type 0) → Book → List ℕ → Item → Book → List ℕ → Option ℕ → Type 0
IsWorked problem turn given usable passed old waiting item new joined None =
    (((made : Derived) → ¬ Gives problem old given usable passed item made) × (new ≡ old) × (joined ≡ waiting))
    ⊎ ((out : Processed) × IsProcessed problem turn given usable passed old item new out × ((k : ℕ) → out.fate ≢ Empty k) × (joined ≡ waiting ++ out.again))
IsWorked problem turn given usable passed old waiting item new joined (Some k) =
    (out : Processed) × IsProcessed problem turn given usable passed old item new out × (out.fate ≡ Empty k)
