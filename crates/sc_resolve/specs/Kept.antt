-- What clauses keep that are given or usable.
use Rattle.sc_term.specs.declared.Clause.{Clause}
use Rattle.sc_term.specs.Clause.{IsCanonical, IsWithinLimits}

-- the clause is canonical, and within the limits
pub record IsKept (c : Clause) : Type 0 where
  pub canonical : IsCanonical c
  pub within : IsWithinLimits c
