-- The limits of a token, in two parts: those on the name that ends before it and on the number that it is, and those
-- on the clause or term so far.
use Rattle.std.specs.Prelude.{Bool, ◌&&◌, List, [], ◌∷◌, Option, Some, None, option_and_then, if◌then◌else◌}
use Rattle.sc_term.specs.declared.symbol.Symbol.{Symbol}
use Rattle.sc_input_rules.specs.declared.fault.InputKind.TheVariants.{UnknownName, OutOfRange, TooMany, TooHeavy, TooDeep}
use Rattle.sc_input_rules.specs.declared.fault.Place.{Place}
use Rattle.sc_input_rules.specs.declared.token.Token.{Token}
use Rattle.sc_input_rules.specs.declared.written.Occurrence.{Occurrence}
use Rattle.sc_input_rules.specs.Faults.{Limit, place, passed}
use Rattle.sc_input_rules.specs.ClauseLimits.{arity_told, weight_told, depth_told}
use Rattle.sc_text_rules.specs.TextWords.{is_large_variable}
use Rattle.sc_text_rules.specs.TextPosition.{TextPosition, Formula, ended_name, in_term_place}
use Rattle.sc_text_rules.specs.TextLimits.{is_unknown, name_told, variable_told, number_told, text_bounds}

-- the limits on the name that ends before the last token, and on the number that it is
abbrev pub limits_before : List Symbol → List (Limit TextPosition)
limits_before symbols =
    record { kind = UnknownName; told = name_told symbols } ∷ record { kind = OutOfRange; told = variable_told } ∷ record { kind = OutOfRange; told = number_told } ∷ []

-- the limit that a clause or term so far passes
abbrev pub fault_in_formula : List Token → Option Place
fault_in_formula tokens =
    passed (
    record { kind = TooMany; told = arity_told text_bounds } ∷ record { kind = TooHeavy; told = weight_told text_bounds }
    ∷ record { kind = TooDeep; told = depth_told text_bounds } ∷ [])
    tokens

-- the limit that a name passes, in the place of a term or of an atom
abbrev pub fault_of_name : List Symbol → Bool → Occurrence → Option Place
fault_of_name symbols in_term o =
    if is_unknown symbols in_term o then Some (place o.at UnknownName) else if in_term && is_large_variable o then Some (place o.at OutOfRange) else None

-- the limit that the name passes that ends with a clause or term so far, before a token
abbrev pub fault_of_ended : List Symbol → Formula → Token → Option Place
fault_of_ended symbols f last = option_and_then (λ o. fault_of_name symbols (in_term_place f last) o) (ended_name f.tokens last)
