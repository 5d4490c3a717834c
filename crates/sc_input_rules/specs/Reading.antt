-- The problem that bytes spell, or where and why they are refused.
use Rattle.std.specs.Prelude.{ℕ, List, length, map, Result, Ok, Err, true, false}
use Rattle.sc_input_rules.specs.declared.fault.InputKind.TheVariants.{Unsupported}
use Rattle.sc_input_rules.specs.declared.fault.Place.{Place}
use Rattle.sc_input_rules.specs.declared.token.Token.{Token}
use Rattle.sc_input_rules.specs.declared.token.Token.TheVariants.{Word, Punctuation, Refused}
use Rattle.sc_input_rules.specs.declared.token.Sign.TheVariants.{Colon}
use Rattle.sc_input_rules.specs.Token.{is_sign}
use Rattle.sc_input_rules.specs.Tokens.{tokens}
use Rattle.sc_input_rules.specs.Reader.{Read}
use Rattle.sc_input_rules.specs.ProblemGrammar.{Item, problem, items}
use Rattle.sc_input_rules.specs.ClauseLimits.{Bounds}
use Rattle.sc_input_rules.specs.ProblemLimits.{problem_bounds, problem_fault_at}
use Rattle.sc_input_rules.specs.Faults.{judged, place_of}
use Rattle.sc_input_rules.specs.Problem.{Stated, stated}

-- in a problem `:` is no token
abbrev pub without_colon : Token → Token
without_colon (Word at text) = Word at text
without_colon (Punctuation at s) = elim (is_sign Colon (Punctuation at s)) [ true ↦ Refused at Unsupported | false ↦ Punctuation at s ]
without_colon (Refused at kind) = Refused at kind

abbrev pub problem_tokens : List ℕ → List Token
problem_tokens bytes = map without_colon (tokens bytes)

abbrev pub judged_items : Bounds → (List Token → Read (List Item)) → List ℕ → Result (List Item × List Token) Place
judged_items bounds production bytes =
    let all = problem_tokens bytes in
    judged (problem_fault_at bounds) (length bytes) all (production all)

-- the problem, where the whole of the bytes is one within the bounds
abbrev pub problem_within : Bounds → List ℕ → Result Stated Place
problem_within bounds bytes = elim (judged_items bounds problem bytes) [ Ok r ↦ Ok (stated r.0) | Err p ↦ Err p ]

abbrev pub problem_of : List ℕ → Result Stated Place
problem_of bytes = problem_within problem_bounds bytes

-- A problem, and the byte of the word `proof` or `run` behind it, or the end.
pub record StatedItems : Type 0 where
  pub problem : Stated
  pub rest : ℕ

abbrev pub items_of : List ℕ → Result StatedItems Place
items_of bytes =
    elim (judged_items problem_bounds items bytes) [
      | Ok r ↦ Ok (record { problem = stated r.0; rest = place_of (length bytes) r.1 })
      | Err p ↦ Err p
    ]
