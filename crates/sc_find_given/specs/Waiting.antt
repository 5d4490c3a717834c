-- What the values so far decide, and up to which cell they leave the rest open.
use Rattle.std.specs.Prelude.{◌≡◌, ◌≤◌, ℕ, List, ◌++◌, Option, Some, None, Result, Ok, Err, All, length}
use Rattle.sc_term.specs.declared.Literal.{Literal}
use Rattle.sc_term.specs.Interpretation.{Assignment}
use Rattle.sc_cells.specs.Cells.{Prefix, IsFalseBy}

-- what is found by the values, whatever values follow; or a cell without whose value nothing is found
abbrev pub Sees : {A : Type 0} → (List ℕ → Option A) → List ℕ → Result A ℕ → Type 0
Sees find given (Ok x) = (more : List ℕ) → find (given ++ more) ≡ Some x
Sees find given (Err cell) = (length given ≤ cell) × ((more : List ℕ) → length (given ++ more) ≤ cell → find (given ++ more) ≡ None)

-- it holds, whatever values follow; or a cell without whose value it doesn't
abbrev pub Decides : (List ℕ → Type 0) → List ℕ → Option ℕ → Type 0
Decides P given None = (more : List ℕ) → P (given ++ more)
Decides P given (Some cell) = (length given ≤ cell) × ((more : List ℕ) → length (given ++ more) ≤ cell → ¬ P (given ++ more))

-- all the literals are false; or a cell without a value, up to which no more values make them all false
abbrev pub IsWaiting : List Literal → Assignment → Prefix → Option ℕ → Type 0
IsWaiting literals a p None = All (IsFalseBy p a) literals
IsWaiting literals a p (Some cell) =
    (length p.values ≤ cell) × ((more : List ℕ) → length (p.values ++ more) ≤ length p.cells → length (p.values ++ more) ≤ cell
    → ¬ All (IsFalseBy (record { cells = p.cells; values = p.values ++ more }) a) literals)
