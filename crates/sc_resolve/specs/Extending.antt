-- Lists that grow by the first things of which something holds, up to a limit.
use Rattle.std.specs.Prelude.{◌≡◌, ◌<◌, ℕ, ◌-◌, List, ◌++◌, length}
use Rattle.sc_core_rules.specs.Order.{AreFirst}

-- the list has grown at its end by the first things of which P holds, as far as there was room
pub record Extends {X : Type 0} (numbers : X → List ℕ) (P : X → Type 0) (limit : ℕ) (before after : List X) : Type 0 where
  pub found : List X
  pub grown : after ≡ before ++ found
  pub first : AreFirst numbers P (limit - length before) found

-- x is one of those at a place below n
abbrev pub Below : {X : Type 0} → (ℕ → X → Type 0) → ℕ → X → Type 0
Below At n x = (k : ℕ) × (k < n) × At k x
