-- The first literal that equals an earlier one.
use Rattle.std.specs.Prelude.{◌<◌, ◌≤◌, ℕ, List, length}
use Rattle.sc_term.specs.declared.Literal.{Literal}
use Rattle.sc_core_rules.specs.Simplification.{IsRepeated}

pub record IsFirstRepeated (literals : List Literal) (a : ℕ) : Type 0 where
  pub there : 0 < a
  pub within : a ≤ length literals
  pub repeated : IsRepeated (record { literals = literals }) a
  pub first : (b : ℕ) → b < a → ¬ IsRepeated (record { literals = literals }) b
