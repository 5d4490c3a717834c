-- The limits of proof sections and run texts, in the order in which they are told where one token passes several.
use Rattle.std.specs.Prelude.{ℕ, Bool, ◌&&◌, List, [], ◌∷◌, ◌++◌, Option, Some, None, option_and_then, length, ◌==◌, if◌then◌else◌}
use Rattle.std.specs.List.{list_all}
use Rattle.sc_term.specs.declared.symbol.Symbol.{Symbol}
use Rattle.sc_input_rules.specs.declared.fault.InputKind.TheVariants.{UnknownName, OutOfRange, TooMany, TooHeavy, TooDeep}
use Rattle.sc_input_rules.specs.declared.fault.Place.{Place}
use Rattle.sc_input_rules.specs.declared.token.Token.{Token}
use Rattle.sc_input_rules.specs.declared.token.Token.TheVariants.{Word, Punctuation, Refused}
use Rattle.sc_input_rules.specs.Tokens.{is_digit}
use Rattle.sc_input_rules.specs.declared.written.Occurrence.{Occurrence}
use Rattle.sc_input_rules.specs.Faults.{Limit, passed}
use Rattle.sc_input_rules.specs.ClauseLimits.{Bounds, when, arity_told, weight_told, depth_told}
use Rattle.sc_text_rules.specs.TextWords.{is_longer_or_above, is_unknown_term, is_unknown_atom, is_large_variable}
use Rattle.sc_text_rules.specs.TextPosition.{TextPosition, text_position, is_table_row, formula, ended_name, in_term_place}

-- ---- names

-- what is told of the name that ends before the last token, from whether it stands in the place of a term
abbrev pub of_name : (Bool → Occurrence → Bool) → TextPosition → Option ℕ
of_name test p =
    option_and_then (λ f. option_and_then (λ o. when (test (in_term_place f p.last) o) (Some o.at)) (ended_name f.tokens p.last)) (formula p.earlier)

-- the signature doesn't have the name, in the place of a term or of an atom
abbrev pub is_unknown : List Symbol → Bool → Occurrence → Bool
is_unknown symbols in_term o = if in_term then is_unknown_term symbols o else is_unknown_atom symbols o

-- a name that the signature doesn't have
abbrev pub name_told : List Symbol → TextPosition → Option ℕ
name_told symbols p = of_name (is_unknown symbols) p

-- a variable whose number is too great
abbrev pub variable_told : TextPosition → Option ℕ
variable_told p = of_name (λ in_term o. in_term && is_large_variable o) p

-- ---- numbers

-- digits that stand in no formula, of more than 10 digits or above 4294967295
abbrev pub large_number : Token → Option ℕ
large_number (Word at text) = when (list_all is_digit text && is_longer_or_above 4294967295 text) (Some at)
large_number (Punctuation at s) = None
large_number (Refused at kind) = None

-- the word behind `function` or `predicate` is a name
abbrev pub is_table_name : List Token → Bool
is_table_name earlier = length earlier == 1 && is_table_row earlier

-- a number too great that is no part of a formula and no name of a row
abbrev pub number_told : TextPosition → Option ℕ
number_told p = elim (formula p.earlier) [ None ↦ (if is_table_name p.earlier then None else large_number p.last) | Some f ↦ None ]

-- ---- formulas so far

-- what is told of the formula so far, the last token with it
abbrev pub of_formula : (List Token → Option ℕ) → TextPosition → Option ℕ
of_formula told p = option_and_then (λ f. told f.tokens) (formula (p.earlier ++ p.last ∷ []))

-- what a clause or term that is read back may be
abbrev pub text_bounds : Bounds
text_bounds = record { arity = 8; clauses = 10000; weight = 10000; depth = 256; symbols = 4096 }

-- the limits, each with where it is told
abbrev pub text_limits : Bounds → List Symbol → List (Limit TextPosition)
text_limits bounds symbols =
    record { kind = UnknownName; told = name_told symbols } ∷ record { kind = OutOfRange; told = variable_told }
    ∷ record { kind = OutOfRange; told = number_told } ∷ record { kind = TooMany; told = of_formula (arity_told bounds) }
    ∷ record { kind = TooHeavy; told = of_formula (weight_told bounds) } ∷ record { kind = TooDeep; told = of_formula (depth_told bounds) } ∷ []

-- the limit that is passed at the last of the tokens
abbrev pub text_fault_at : Bounds → List Symbol → List Token → Option Place
text_fault_at bounds symbols tokens = option_and_then (passed (text_limits bounds symbols)) (text_position tokens)
