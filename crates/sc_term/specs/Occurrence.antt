-- Renamed variables, and lists of variables in the order in which they first occur.
use Rattle.std.specs.Prelude.{ℕ, ◌+◌, List, [], ◌∷◌, ◌++◌, map, nat_eq, if◌then◌else◌}
use Rattle.std.specs.List.{list_any}
use Rattle.sc_term.specs.declared.Term.{Var}
use Rattle.sc_term.specs.declared.Literal.{Literal}
use Rattle.sc_term.specs.Substitution.{Substitution}
use Rattle.sc_term.specs.Term.{joined, term_variables}

-- each variable greater by the number
abbrev pub shift_by : ℕ → Substitution
shift_by by n = Var (n + by)

abbrev pub literal_variables : Literal → List ℕ
literal_variables l = joined (map term_variables l.args)

-- the order with more numbers, each at the end unless it is there
abbrev pub noted : List ℕ → List ℕ → List ℕ
noted order [] = order
noted order (n ∷ ns) = noted (if list_any (λ m. nat_eq m n) order then order else order ++ n ∷ []) ns
