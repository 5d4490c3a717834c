-- The literals of a nucleus that are resolved on.
use Rattle.std.specs.Prelude.{◌≡◌, ◌≢◌, ℕ, ◌+◌, List, Some, map, false, slice_get}
use Rattle.sc_term.specs.declared.Literal.{Literal}
use Rattle.sc_term.specs.declared.Clause.{Clause}
use Rattle.sc_term.specs.Numbering.{numbered}
use Rattle.sc_core_rules.specs.Hyperresolution.{AreLiteralsWith}

-- the literals of these numbers
abbrev pub AreLiteralsAt : Clause → List ℕ → List Literal → Type 0
AreLiteralsAt c numbers literals = map Some literals ≡ map (numbered c.literals) numbers

-- the numbers of the literals of which P holds, and the literals
pub record ArePicked (P : ℕ → Literal → Type 0) (c : Clause) (numbers : List ℕ) (literals : List Literal) : Type 0 where
  pub are : AreLiteralsWith P c numbers
  pub there : AreLiteralsAt c numbers literals

-- n is the number of the literal at k, of which P holds
abbrev pub IsPickedAt : (ℕ → Literal → Type 0) → List Literal → ℕ → ℕ → Type 0
IsPickedAt P literals k n = (n ≡ k + 1) × (l : Literal) × (slice_get literals k ≡ Some l) × P n l

abbrev pub IsNegative : ℕ → Literal → Type 0
IsNegative a l = l.positive ≡ false

abbrev pub IsOther : ℕ → ℕ → Literal → Type 0
IsOther target a l = a ≢ target
