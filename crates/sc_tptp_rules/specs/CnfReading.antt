-- The problem that bytes state in TPTP's clause form, or where and why they are refused.
use Rattle.std.specs.Prelude.{ℕ, ◌&&◌, List, length, Result, Ok, Err, nat_le, if◌then◌else◌}
use Rattle.sc_input_rules.specs.declared.fault.InputKind.TheVariants.{TooMany}
use Rattle.sc_input_rules.specs.declared.fault.Place.{Place}
use Rattle.sc_input_rules.specs.declared.token.Token.{Token}
use Rattle.sc_input_rules.specs.ClauseLimits.{Bounds}
use Rattle.sc_input_rules.specs.ProblemLimits.{problem_bounds}
use Rattle.sc_input_rules.specs.Faults.{place, judged}
use Rattle.sc_input_rules.specs.Problem.{Stated}
use Rattle.sc_tptp_rules.specs.Placing.{cnf_tokens}
use Rattle.sc_tptp_rules.specs.CnfGrammar.{Statement, statements}
use Rattle.sc_tptp_rules.specs.CnfLimits.{cnf_fault_at}
use Rattle.sc_tptp_rules.specs.CnfStating.{use_equality, cnf_stated}

abbrev pub judged_statements : Bounds → List ℕ → Result (List Statement × List Token) Place
judged_statements bounds bytes =
    let all = cnf_tokens bytes in
    judged (cnf_fault_at bounds) (length bytes) all (statements all)

-- The added clause counts among the others; where it is one too many, that is told at the end.
abbrev pub within_clauses : Bounds → ℕ → List Statement → Result Stated Place
within_clauses bounds end ss =
    if use_equality ss && nat_le bounds.clauses (length ss) then Err (place end TooMany) else Ok (cnf_stated ss)

abbrev pub cnf_problem_within : Bounds → List ℕ → Result Stated Place
cnf_problem_within bounds bytes = elim (judged_statements bounds bytes) [ Ok r ↦ within_clauses bounds (length bytes) r.0 | Err p ↦ Err p ]

-- the problem, where the whole of the bytes states one
abbrev pub cnf_problem_of : List ℕ → Result Stated Place
cnf_problem_of bytes = cnf_problem_within problem_bounds bytes
