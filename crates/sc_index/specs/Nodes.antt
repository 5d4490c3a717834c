-- Paths in a tree of nodes.
use Rattle.std.specs.Prelude.{◌≡◌, ◌≤◌, ℕ, List, [], ◌∷◌, map, length, slice_get, Contains, IsSomeAnd}
use Rattle.sc_index.specs.declared.flat.Key.{Key}
use Rattle.sc_index.specs.declared.flat.Cell.{Cell}
use Rattle.sc_index.specs.declared.tree.Node.{Node}

abbrev pub keys_of : List Cell → List Key
keys_of cells = map (λ (c : Cell). c.key) cells

-- an edge with the key leads from n to m
abbrev pub HasEdge : List Node → ℕ → Key → ℕ → Type 0
HasEdge nodes n k m = IsSomeAnd (slice_get nodes n) (λ (node : Node). Contains node.edges (record { key = k; child = m }))

-- the keys lead from n to m
abbrev pub Reaches : List Node → ℕ → List Key → ℕ → Type 0
Reaches nodes n [] m = n ≡ m
Reaches nodes n (k ∷ ks) m = (c : ℕ) × HasEdge nodes n k c × Reaches nodes c ks m

-- node m has the slot
abbrev pub Holds : List Node → ℕ → ℕ → Type 0
Holds nodes m slot = IsSomeAnd (slice_get nodes m) (λ (node : Node). Contains node.slots slot)

-- what was there is still there
pub record Grows (old new : List Node) : Type 0 where
  pub long : length old ≤ length new
  pub edges : (n : ℕ) (k : Key) (m : ℕ) → HasEdge old n k m → HasEdge new n k m
  pub slots : (m slot : ℕ) → Holds old m slot → Holds new m slot
