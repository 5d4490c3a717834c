-- Watches, linked from the latest on for each cell.
use Rattle.std.specs.Prelude.{◌≡◌, ◌+◌, ◌<◌, ◌≤◌, ℕ, List, Some, length, slice_get}
use Rattle.sc_find.specs.declared.watch.Watch.{Watch}

-- so many cells, and watches at them
pub record Board : Type 0 where
  pub cells : ℕ
  pub watches : List Watch

-- the number, from 1, of the latest of the first watches, so many, that is at the cell; 0 where none is
pub record IsLatest (watches : List Watch) (many cell at : ℕ) : Type 0 where
  pub within : at ≤ many
  pub here : (n : ℕ) (w : Watch) → at ≡ n + 1 → slice_get watches n ≡ Some w → w.cell ≡ cell
  pub after : (n : ℕ) (w : Watch) → at ≤ n → n < many → slice_get watches n ≡ Some w → ¬ (w.cell ≡ cell)

-- each watch is at one of the cells and has the latest before it there; each cell has the latest of all
pub record AreLinked (latest : List ℕ) (watches : List Watch) : Type 0 where
  pub cells : (n : ℕ) (w : Watch) → slice_get watches n ≡ Some w → w.cell < length latest
  pub next : (n : ℕ) (w : Watch) → slice_get watches n ≡ Some w → IsLatest watches n w.cell w.next
  pub all : (cell at : ℕ) → slice_get latest cell ≡ Some at → IsLatest watches (length watches) cell at
