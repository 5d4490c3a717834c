-- How often variables occur on the sides of an equation.
use Rattle.std.specs.Prelude.{◌≤◌, ℕ, count_by, nat_eq}
use Rattle.sc_term.specs.declared.Term.{Term}
use Rattle.sc_term.specs.Term.{term_variables}

-- the variable occurs no more often in the one term than in the other
abbrev pub OccursNoMore : Term → Term → ℕ → Type 0
OccursNoMore right left v = count_by (nat_eq v) (term_variables right) ≤ count_by (nat_eq v) (term_variables left)
