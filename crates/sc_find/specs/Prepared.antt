-- What a job keeps for its searches: cells and instances.
use Rattle.std.specs.Prelude.{◌≡◌, ◌≤◌, List, IsSomeAnd, All, map, slice_get, slice_index}
use Rattle.sc_term.specs.declared.Clause.{Clause}
use Rattle.sc_input_rules.specs.WellFormed.{IsOver}
use Rattle.sc_cells.specs.declared.cells.Cell.{Cell}
use Rattle.sc_cells.specs.declared.instances.GroundInstance.{GroundInstance}
use Rattle.sc_cells.specs.Cells.{Entry, Prefix, AreCells, cell_at, cell_count, IsFalseBy}
use Rattle.sc_cells.specs.Ground.{AreInstances}
use Rattle.sc_find.specs.Models.{Task}

-- all literals of the instance are false
abbrev pub IsFalseInstance : List Clause → Prefix → GroundInstance → Type 0
IsFalseInstance clauses p i = IsSomeAnd (slice_get clauses i.place) (λ c. All (IsFalseBy p (slice_index i.values)) c.literals)

pub record IsPrepared (task : Task) (cells : List Cell) (instances : List GroundInstance) : Type 0 where
  pub not_empty : 1 ≤ task.size
  pub small : task.size ≤ 8
  pub few : cell_count task.sig task.size ≤ 4096
  pub entries : List Entry
  pub are_cells : AreCells task.sig task.size entries
  pub listed : cells ≡ map (cell_at task.size) entries
  pub over : All (IsOver task.sig) task.clauses
  pub are_instances : AreInstances task.clauses task.size instances
