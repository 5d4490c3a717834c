-- The instances of clauses over the elements of a size, in order.
use Rattle.std.specs.Prelude.{◌≡◌, ◌<◌, ℕ, ◌^◌, List, ◌∷◌, IsSomeAnd, min, slice_get, length}
use Rattle.std.specs.List.{All, sum_by}
use Rattle.sc_term.specs.declared.Clause.{Clause}
use Rattle.sc_term.specs.Clause.{width}
use Rattle.sc_cells.specs.declared.instances.GroundInstance.{GroundInstance}
use Rattle.sc_cells.specs.declared.instances.GroundError.{GroundError}
use Rattle.sc_cells.specs.declared.instances.GroundError.TheVariants.{TooWide, OutOfMemory}
use Rattle.sc_cells.specs.Order.{AreInOrder}

-- the clause at the place is there, and each of its variables has an element
abbrev pub IsInstance : List Clause → ℕ → GroundInstance → Type 0
IsInstance clauses size i =
    IsSomeAnd (slice_get clauses i.place) (λ c. length i.values ≡ width c) × All (λ v. v < size) i.values

-- instances stand in order of the clause, and those of a clause in rising order of their elements, variable 0 first
abbrev pub instance_numbers : GroundInstance → List ℕ
instance_numbers i = i.place ∷ i.values

-- they are the instances of the clauses, in order
abbrev pub AreInstances : List Clause → ℕ → List GroundInstance → Type 0
AreInstances clauses size instances = AreInOrder instance_numbers (IsInstance clauses size) instances

-- how many instances there are
abbrev pub instance_count : List Clause → ℕ → ℕ
instance_count clauses size = sum_by (λ (c : Clause). size ^ width c) clauses

-- what the error says of a number of instances: nothing, where memory is wanting
abbrev pub IsCauseOfGround : ℕ → GroundError → Type 0
IsCauseOfGround instances (TooWide count) = (count ≡ min instances 1000000000) × (200000 < instances)
IsCauseOfGround instances OutOfMemory = Unit {0}
