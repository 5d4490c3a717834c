-- What a walk over the tree finds: the slots at the ends of all paths that meet a row.
use Rattle.std.specs.Prelude.{◌≡◌, ◌<◌, ◌≤◌, ◌^◌, ℕ, List, [], ◌++◌, ◌∷◌, drop, length, slice_get, Contains, Some, Bool}
use Rattle.sc_index.specs.declared.flat.Key.{Key}
use Rattle.sc_index.specs.declared.flat.Cell.{Cell}
use Rattle.sc_index.specs.declared.tree.Edge.{Edge}
use Rattle.sc_index.specs.declared.tree.Node.{Node}
use Rattle.sc_index.specs.declared.walking.Task.{Task}
use Rattle.sc_index.specs.Meeting.{Moves, Meets}
use Rattle.sc_index.specs.Nodes.{HasEdge, Reaches, Holds}

-- the slots at the ends of the paths from the first node that meet the row are found
abbrev pub FindsAll : Bool → Bool → List Node → List Cell → List ℕ → Type 0
FindsAll stored asked nodes query found = (ks : List Key) (m slot : ℕ) → length ks < 2 ^ 64 → Reaches nodes 0 ks m → Meets stored asked ks 0 query → Holds nodes m slot → Contains found slot

-- ---- how they are found

-- the new list is the old one and maybe more
abbrev pub Extends : {X : Type 0} → List X → List X → Type 0
Extends {X} old new = (added : List X) × (new ≡ old ++ added)

-- one of the tasks is at the node, with so many terms of the path to be passed over and these cells of the row left
abbrev pub HasTask : List Cell → List Task → ℕ → ℕ → List Cell → Type 0
HasTask query tasks n pending cells = (t : Task) × Contains tasks t × (t.node ≡ n) × (t.spot.pending ≡ pending) × (drop t.spot.at query ≡ cells)

-- the new tasks are the old ones and at least those that the edges lead to
pub record Follows (stored asked : Bool) (query : List Cell) (edges : List Edge) (pending : ℕ) (cells : List Cell) (old new : List Task) : Type 0 where
  pub extends : Extends old new
  pub each : (k : Key) (c after : ℕ) (to : List Cell) → Contains edges (record { key = k; child = c }) → Moves stored asked k pending cells after to → after < 2 ^ 64 → HasTask query new c after to

-- where the row ends the task's slots are found, and whatever its edges lead to is among the tasks
pub record IsDone (stored asked : Bool) (nodes : List Node) (query : List Cell) (tasks : List Task) (found : List ℕ) (t : Task) : Type 0 where
  pub ends : t.spot.pending ≡ 0 → drop t.spot.at query ≡ [] → (slot : ℕ) → Holds nodes t.node slot → Contains found slot
  pub goes : (k : Key) (c after : ℕ) (to : List Cell) → HasEdge nodes t.node k c → Moves stored asked k t.spot.pending (drop t.spot.at query) after to → after < 2 ^ 64 → HasTask query tasks c after to

-- the task is done, and nothing is lost
pub record TakesUp (stored asked : Bool) (nodes : List Node) (query : List Cell) (task : Task) (old new : List Task) (before after : List ℕ) : Type 0 where
  pub extends : Extends old new
  pub kept : (slot : ℕ) → Contains before slot → Contains after slot
  pub done : IsDone stored asked nodes query new after task

-- the walk began at the first node, and the tasks before the number are done
pub record IsUnderway (stored asked : Bool) (nodes : List Node) (query : List Cell) (tasks : List Task) (next : ℕ) (found : List ℕ) : Type 0 where
  pub first : HasTask query tasks 0 0 query
  pub done : (i : ℕ) (t : Task) → i < next → slice_get tasks i ≡ Some t → IsDone stored asked nodes query tasks found t
