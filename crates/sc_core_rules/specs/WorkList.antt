-- The work list of a turn: its sites, and clauses that come back.
use Rattle.std.specs.Prelude.{◌≡◌, ◌≢◌, ℕ, zero, suc, List, [], ◌∷◌, ◌++◌, Some, map}
use Rattle.sc_term.specs.declared.Clause.{Clause}
use Rattle.sc_term.specs.declared.Step.TheVariants.{Input}
use Rattle.sc_term.specs.Numbering.{numbered}
use Rattle.sc_input_rules.specs.Problem.{Stated}
use Rattle.sc_term.specs.declared.Numbered.{Numbered}
use Rattle.sc_steps.specs.declared.derivations.derivation.Derived.{Derived}
use Rattle.sc_core_rules.specs.declared.fate.Fate.TheVariants.{Empty}
use Rattle.sc_core_rules.specs.declared.fate.Processed.{Processed}
use Rattle.sc_core_rules.specs.Inference.{Inference, Concludes}
use Rattle.sc_core_rules.specs.Sites.{Site, Infers}
use Rattle.sc_core_rules.specs.Book.{Book, numbered_clauses}
use Rattle.sc_core_rules.specs.Processing.{Processes}

-- a site, or the number of a deleted clause that is processed again
pub data Item : Type 0 where
  At : Site → Item
  Again : ℕ → Item

-- the item gives this conclusion: that of its site, where the site isn't passed over, or the clause itself by its `input`
-- line
abbrev pub Gives : Stated → Book → Numbered → List Numbered → (Site → Type 0) → Item → Derived → Type 0
Gives problem book given usable passed (At site) made = (¬ passed site) × ((i : Inference) × Infers given usable site i × Concludes i made)
Gives problem book given usable passed (Again n) made =
    (c : Clause) × (numbered (numbered_clauses problem book) n ≡ Some c)
    × (made ≡ record { clause = c; lines = record { step = Input n; clause = c } ∷ [] })

-- how the work of a turn ends: all done, the empty clause found, or too many items
pub data Finish : Type 0 where
  Done : Finish
  Found : ℕ → Finish
  TooMany : Finish

-- the items are processed in order, at most so many; those that go back to the list join its end; an empty clause ends it
pub data Works (problem : Stated) (turn : ℕ) (given : Numbered) (usable : List Numbered) (passed : Site → Type 0) : ℕ → Book → List Item → Book → Finish → Type 0 where
  done : {n : ℕ} {book : Book} → Works problem turn given usable passed n book [] book Done
  too_many : {book : Book} {item : Item} {items : List Item} → Works problem turn given usable passed zero book (item ∷ items) book TooMany
  nothing : {n : ℕ} {book new : Book} {item : Item} {items : List Item} {finish : Finish}
      → ((made : Derived) → ¬ Gives problem book given usable passed item made)
      → Works problem turn given usable passed n book items new finish
      → Works problem turn given usable passed (suc n) book (item ∷ items) new finish
  found : {n k : ℕ} {book new : Book} {item : Item} {items : List Item} (made : Derived) (out : Processed)
      → Gives problem book given usable passed item made
      → Processes problem book made.lines turn new out → out.fate ≡ Empty k
      → Works problem turn given usable passed (suc n) book (item ∷ items) new (Found k)
  goes_on : {n : ℕ} {book mid new : Book} {item : Item} {items : List Item} {finish : Finish} (made : Derived) (out : Processed)
      → Gives problem book given usable passed item made
      → Processes problem book made.lines turn mid out → ((k : ℕ) → out.fate ≢ Empty k)
      → Works problem turn given usable passed n mid (items ++ map Again out.again) new finish
      → Works problem turn given usable passed (suc n) book (item ∷ items) new finish
