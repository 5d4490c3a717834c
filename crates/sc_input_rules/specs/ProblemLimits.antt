-- The limits of a problem, in the order in which they are told where one token passes several.
use Rattle.std.specs.Prelude.{ℕ, Bool, true, false, not, ◌&&◌, List, [], ◌∷◌, map, length, Option, Some, None, Ok, Err, codes, find, option_map, option_and_then, slice_get, nat_lt, nat_le, int_le, if◌then◌else◌}
use Rattle.sc_input_rules.specs.declared.fault.InputKind.TheVariants.{OutOfRange, TooMany, TooHeavy, TooDeep, BadDemodulator}
use Rattle.sc_input_rules.specs.declared.fault.Place.{Place}
use Rattle.sc_input_rules.specs.declared.settings.Home.{Home}
use Rattle.sc_input_rules.specs.declared.settings.Home.TheVariants.{Usable, Sos, Passive, Demodulators}
use Rattle.sc_input_rules.specs.declared.token.Token.{Token}
use Rattle.sc_input_rules.specs.declared.token.Token.TheVariants.{Word}
use Rattle.sc_input_rules.specs.Token.{is_word}
use Rattle.sc_input_rules.specs.Syntax.{WrittenClause}
use Rattle.sc_input_rules.specs.ClauseGrammar.{clause}
use Rattle.sc_input_rules.specs.Settings.{Range, ranges}
use Rattle.sc_input_rules.specs.ProblemGrammar.{number}
use Rattle.sc_input_rules.specs.Position.{Position, position, clause_so_far, closes}
use Rattle.sc_input_rules.specs.Numbering.{symbol_order}
use Rattle.sc_input_rules.specs.Demodulator.{is_demodulator}
use Rattle.sc_input_rules.specs.Faults.{Limit, passed}
use Rattle.sc_input_rules.specs.ClauseLimits.{Bounds, when, first_at, arity_told, weight_told, depth_told}

-- ---- numbers

-- the digits at the end
abbrev pub last_digits : List Token → List ℕ
last_digits (Word at text ∷ []) = text
last_digits (t ∷ u ∷ tokens) = last_digits (u ∷ tokens)
last_digits tokens = []

abbrev pub range_of : Token → Option Range
range_of t = option_map (λ r. r.1) (find (λ (r : List ℕ × Range). is_word r.0 t) ranges)

-- a number of more than 10 digits, or outside the range
abbrev pub is_outside : Range → List Token → Bool
is_outside range tokens =
    elim (number tokens) [
      | Ok n ↦ if nat_lt 10 (length (last_digits tokens)) then true else not (int_le range.low n.0 && int_le n.0 range.high)
      | Err f ↦ false
    ]

-- the number is what stands behind `assign`, `(`, the parameter and `,`
abbrev pub out_of_range : List Token → Option ℕ
out_of_range (item ∷ bracket ∷ name ∷ comma ∷ value) =
    when (is_word (codes "assign") item) (option_and_then (λ range. when (is_outside range value) (first_at value)) (range_of name))
out_of_range tokens = None

abbrev pub number_told : Position → Option ℕ
number_told p = elim p.home [ None ↦ out_of_range p.sentence | Some home ↦ None ]

-- ---- clauses so far

-- the first token of a clause too many
abbrev pub clauses_told : Bounds → Position → Option ℕ
clauses_told bounds p = let c = clause_so_far p in when (nat_le bounds.clauses (length p.clauses) && not (closes c)) (first_at c)

-- ---- whole clauses

abbrev pub written : List Token → WrittenClause
written tokens = elim (clause tokens) [ Ok c ↦ c.0 | Err f ↦ [] ]

-- the word whose symbol is one too many, `=` among them
abbrev pub symbols_told : Bounds → Position → Option ℕ
symbols_told bounds p = option_map (λ f. f.at) (slice_get (symbol_order (map (λ c. written c.1) p.clauses)) bounds.symbols)

abbrev pub is_bad_demodulator : Home × List Token → Bool
is_bad_demodulator (Demodulators, tokens) = not (is_demodulator (written tokens))
is_bad_demodulator (Usable, tokens) = false
is_bad_demodulator (Sos, tokens) = false
is_bad_demodulator (Passive, tokens) = false

-- the first byte of the clause
abbrev pub demodulators_told : Position → Option ℕ
demodulators_told p = option_and_then (λ c. first_at c.1) (find is_bad_demodulator p.clauses)

-- ---- all

abbrev pub problem_bounds : Bounds
problem_bounds = record { arity = 8; clauses = 10000; weight = 1000; depth = 256; symbols = 4096 }

abbrev pub problem_limits : Bounds → List (Limit Position)
problem_limits bounds =
    record { kind = OutOfRange; told = number_told }
    ∷ record { kind = TooMany; told = λ p. arity_told bounds (clause_so_far p) }
    ∷ record { kind = TooMany; told = clauses_told bounds }
    ∷ record { kind = TooHeavy; told = λ p. weight_told bounds (clause_so_far p) }
    ∷ record { kind = TooDeep; told = λ p. depth_told bounds (clause_so_far p) }
    ∷ record { kind = TooMany; told = symbols_told bounds } ∷ record { kind = BadDemodulator; told = demodulators_told } ∷ []

-- the limit that is passed at the last of the tokens
abbrev pub problem_fault_at : Bounds → List Token → Option Place
problem_fault_at bounds tokens = passed (problem_limits bounds) (position tokens)
