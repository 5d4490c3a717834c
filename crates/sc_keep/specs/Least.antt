-- The least number of a clause with a property, as far as the clauses were looked at.
use Rattle.std.specs.Prelude.{◌≡◌, ◌<◌, ℕ, List, Option, Some, None, Contains}
use Rattle.sc_term.specs.declared.Numbered.{Numbered}
use Rattle.sc_core_rules.specs.Rewriting.{number_of}
use Rattle.sc_core_rules.specs.Order.{IsLeast}

-- none of the clauses has the property, or the number is that of the least that has it
abbrev pub IsLeastNumber : (Numbered → Type 0) → List Numbered → Option ℕ → Type 0
IsLeastNumber P ps None = (p : Numbered) → Contains ps p → ¬ P p
IsLeastNumber P ps (Some n) = (m : Numbered) × IsLeast number_of P ps m × (m.number ≡ n)

-- the number is less than the one found so far, if any
abbrev pub IsBelow : ℕ → Option ℕ → Type 0
IsBelow n None = Unit {0}
IsBelow n (Some m) = n < m
