-- The rival of least number among clauses, as far as they were looked at.
use Rattle.std.specs.Prelude.{◌≡◌, ◌<◌, ℕ, List, Option, Some, None, Contains}
use Rattle.sc_term.specs.declared.Clause.{Clause}
use Rattle.sc_term.specs.declared.Numbered.{Numbered}
use Rattle.sc_term.specs.Clause.{IsCanonical, IsWithinLimits}
use Rattle.sc_core_rules.specs.Rewriting.{number_of}
use Rattle.sc_core_rules.specs.Order.{IsLeast}
use Rattle.sc_core_rules.specs.Conflict.{Conflicts}
use Rattle.sc_core_rules.specs.Processing.{IsRival}
use Rattle.sc_keep.specs.declared.rival.Rival.{Rival}

-- the clause is canonical, and within the limits
pub record IsFit (p : Numbered) : Type 0 where
  pub canonical : IsCanonical p.clause
  pub within : IsWithinLimits p.clause

-- the same of a clause without its number
abbrev pub IsFitClause : Clause → Type 0
IsFitClause c = IsCanonical c × IsWithinLimits c

-- the number is less than that of the rival found so far, if any
abbrev pub IsBelowRival : ℕ → Option Rival → Type 0
IsBelowRival n None = Unit {0}
IsBelowRival n (Some rival) = n < rival.number

-- none of the clauses is a rival, or this is the one of least number, with the empty clause of the two
abbrev pub IsLeastRival : Numbered → List Numbered → Option Rival → Type 0
IsLeastRival n ps None = (p : Numbered) → Contains ps p → ¬ IsRival n p
IsLeastRival n ps (Some rival) = (m : Numbered) × IsLeast number_of (IsRival n) ps m × (m.number ≡ rival.number) × Conflicts n m rival.made
