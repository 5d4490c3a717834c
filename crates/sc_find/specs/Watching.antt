-- Which cells the instances wait for.
use Rattle.std.specs.Prelude.{◌≡◌, ◌<◌, ◌≤◌, ◌⊎◌, ℕ, List, ◌++◌, Option, Some, None, Bool, true, false, All, Contains, length, slice_get}
use Rattle.sc_term.specs.declared.Clause.{Clause}
use Rattle.sc_cells.specs.declared.instances.GroundInstance.{GroundInstance}
use Rattle.sc_cells.specs.Cells.{Prefix}
use Rattle.sc_cells.specs.Ground.{AreInstances}
use Rattle.sc_find.specs.declared.watch.Watch.{Watch}
use Rattle.sc_find.specs.Linked.{Board}
use Rattle.sc_find.specs.Models.{Task}
use Rattle.sc_find.specs.Prepared.{IsFalseInstance}

-- the instance isn't false, whatever values follow, before the cell has one
abbrev pub IsOpenUpTo : List Clause → Prefix → GroundInstance → ℕ → Type 0
IsOpenUpTo clauses p i cell = (more : List ℕ) → length (p.values ++ more) ≤ length p.cells → length (p.values ++ more) ≤ cell
    → ¬ IsFalseInstance clauses (record { cells = p.cells; values = p.values ++ more }) i

-- the instance is false, or waits for a cell without a value
abbrev pub Waits : List Clause → Prefix → GroundInstance → Option ℕ → Type 0
Waits clauses p i None = IsFalseInstance clauses p i
Waits clauses p i (Some cell) = (length p.values ≤ cell) × IsOpenUpTo clauses p i cell

-- the instance of that number waits for a cell, at which there is a watch for it, or for none
pub record IsWatched (clauses : List Clause) (instances : List GroundInstance) (p : Prefix) (watches : List Watch) (n : ℕ) : Type 0 where
  pub cell : ℕ
  pub later : length p.values ≤ cell
  pub stays : (i : GroundInstance) → slice_get instances n ≡ Some i → IsOpenUpTo clauses p i cell
  pub there : (length p.cells ≤ cell) ⊎ ((w : Watch) × Contains watches w × (w.instance ≡ n) × (w.cell ≡ cell) × (w.depth ≤ length p.values))

-- by the values, and also by fewer of them, each instance is watched
pub record AreWatched (clauses : List Clause) (instances : List GroundInstance) (p : Prefix) (watches : List Watch) : Type 0 where
  pub places : All (λ w. w.instance < length instances) watches
  pub each : (front rest : List ℕ) → p.values ≡ front ++ rest → (n : ℕ) → n < length instances
      → IsWatched clauses instances (record { cells = p.cells; values = front }) watches n

-- the same of the instances of a task's clauses
pub record IsWatching (task : Task) (p : Prefix) (board : Board) : Type 0 where
  pub cells : board.cells ≡ length p.cells
  pub instances : List GroundInstance
  pub are : AreInstances task.clauses task.size instances
  pub watched : AreWatched task.clauses instances p board.watches

-- watches were added, of instances that there are
pub record IsGrown (instances : ℕ) (before after : Board) : Type 0 where
  pub cells : after.cells ≡ before.cells
  pub added : List Watch
  pub watches : after.watches ≡ before.watches ++ added
  pub places : All (λ w. w.instance < instances) added

-- watches were taken away that were found when more cells had values
pub record IsTakenBack (depth : ℕ) (before after : Board) : Type 0 where
  pub cells : after.cells ≡ before.cells
  pub gone : List Watch
  pub watches : before.watches ≡ after.watches ++ gone
  pub deeper : All (λ w. depth < w.depth) gone

-- the instance of that number is watched, or it is false
abbrev pub Goes : List Clause → List GroundInstance → Prefix → List Watch → ℕ → Bool → Type 0
Goes clauses instances p watches n true = IsWatched clauses instances p watches n
Goes clauses instances p watches n false = (i : GroundInstance) → slice_get instances n ≡ Some i → IsFalseInstance clauses p i

-- all instances are watched, or some one is false
abbrev pub AllGo : List Clause → List GroundInstance → Prefix → List Watch → Bool → Type 0
AllGo clauses instances p watches true = AreWatched clauses instances p watches
AllGo clauses instances p watches false = (n : ℕ) × (i : GroundInstance) × (slice_get instances n ≡ Some i) × IsFalseInstance clauses p i
