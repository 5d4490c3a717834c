-- The sites of factoring, loop by loop.
use Rattle.std.specs.Prelude.{◌≡◌, ◌<◌, ℕ, ◌+◌, List, Some, slice_get, length}
use Rattle.sc_term.specs.declared.Literal.{Literal}
use Rattle.sc_core_rules.specs.declared.site.FactorSite.{FactorSite}
use Rattle.sc_resolve.specs.Extending.{Below}
use Rattle.sc_resolve.specs.Literals.{AreMergeable}

-- the site of literal l, at a, and the one at k behind it
abbrev pub IsWithSecond : ℕ → Literal → List Literal → ℕ → FactorSite → Type 0
IsWithSecond a l literals k x =
    (x ≡ record { first = a + 1; second = k + 1 }) × (a < k) × (m : Literal) × (slice_get literals k ≡ Some m) × AreMergeable l m

-- a site whose first literal is the one at k
abbrev pub IsWithFirst : List Literal → ℕ → FactorSite → Type 0
IsWithFirst literals k x = (l : Literal) × (slice_get literals k ≡ Some l) × Below (IsWithSecond k l literals) (length literals) x
