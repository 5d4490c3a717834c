-- The limits of a clause so far.
use Rattle.std.specs.Prelude.{ℕ, not, ◌&&◌, List, [], ◌∷◌, Option, nat_le}
use Rattle.sc_input_rules.specs.declared.fault.InputKind.TheVariants.{TooMany, TooHeavy, TooDeep}
use Rattle.sc_input_rules.specs.declared.fault.Place.{Place}
use Rattle.sc_input_rules.specs.declared.token.Token.{Token}
use Rattle.sc_input_rules.specs.Position.{closes}
use Rattle.sc_input_rules.specs.Faults.{passed}
use Rattle.sc_input_rules.specs.ClauseLimits.{when, first_at, arity_told, weight_told, depth_told}
use Rattle.sc_input_rules.specs.ProblemLimits.{problem_bounds}

-- the first token of a clause too many, behind so many clauses
abbrev pub clauses_told_behind : ℕ → List Token → Option ℕ
clauses_told_behind clauses tokens = when (nat_le 10000 clauses && not (closes tokens)) (first_at tokens)

-- the first limit that a clause so far passes, behind so many clauses
abbrev pub fault_in_clause : ℕ → List Token → Option Place
fault_in_clause clauses tokens =
    passed (
    record { kind = TooMany; told = arity_told problem_bounds } ∷ record { kind = TooMany; told = clauses_told_behind clauses }
    ∷ record { kind = TooHeavy; told = weight_told problem_bounds } ∷ record { kind = TooDeep; told = depth_told problem_bounds } ∷ [])
    tokens
