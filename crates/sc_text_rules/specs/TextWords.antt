-- Names and numbers in texts that are read back.
use Rattle.std.specs.Prelude.{ℕ, Bool, true, false, not, ◌&&◌, ◌||◌, List, [], ◌∷◌, length, Option, Some, None, Ok, ◌==◌, nat_lt, if◌then◌else◌}
use Rattle.std.specs.List.{list_any, list_all}
use Rattle.std.specs.Str.Parse.{digits_value}
use Rattle.sc_term.specs.declared.symbol.Symbol.{Symbol}
use Rattle.sc_term.specs.Symbol.{same_symbol}
use Rattle.sc_input_rules.specs.declared.token.Token.{Token}
use Rattle.sc_input_rules.specs.Tokens.{is_digit}
use Rattle.sc_input_rules.specs.Reader.{Read, ◌>>=◌, unexpected, a_word}
use Rattle.sc_input_rules.specs.declared.written.Occurrence.{Occurrence}
use Rattle.sc_input_rules.specs.Numbering.{is_variable, function_at, predicate_at}

-- ---- numbers

abbrev pub is_longer_or_above : ℕ → List ℕ → Bool
is_longer_or_above high digits = nat_lt 10 (length digits) || nat_lt high (digits_value 10 digits)

-- digits whose number passes the test
abbrev pub a_number_such : (ℕ → Bool) → List Token → Read ℕ
a_number_such test tokens = a_word tokens >>= λ w.
    elim (list_all is_digit w.0.text && test (digits_value 10 w.0.text)) [ true ↦ Ok (digits_value 10 w.0.text, w.1) | false ↦ unexpected tokens ]

abbrev pub a_number : List Token → Read ℕ
a_number tokens = a_number_such (λ n. true) tokens

abbrev pub the_number : ℕ → List Token → Read ℕ
the_number n tokens = a_number_such (λ m. m == n) tokens

-- ---- variables

-- the digits of a word of `x` and digits
abbrev pub digits_behind_x : List ℕ → List ℕ
digits_behind_x [] = []
digits_behind_x (b ∷ bs) = if b == 120 && list_all is_digit bs then bs else []

abbrev pub is_some_digits : List ℕ → Bool
is_some_digits [] = false
is_some_digits (b ∷ bs) = true

abbrev pub is_numbered_variable : Occurrence → Bool
is_numbered_variable o = o.arity == 0 && is_some_digits (digits_behind_x o.name)

-- the number of a variable
abbrev pub text_variable : Occurrence → Option ℕ
text_variable o = if is_numbered_variable o then Some (digits_value 10 (digits_behind_x o.name)) else None

-- ---- names

abbrev pub is_symbol : List Symbol → Symbol → Bool
is_symbol symbols s = list_any (same_symbol s) symbols

abbrev pub is_unknown_term : List Symbol → Occurrence → Bool
is_unknown_term symbols o = if is_variable o then not (is_numbered_variable o) else not (is_symbol symbols (function_at o).symbol)

abbrev pub is_unknown_atom : List Symbol → Occurrence → Bool
is_unknown_atom symbols o = not (is_symbol symbols (predicate_at o).symbol)

abbrev pub is_large_variable : Occurrence → Bool
is_large_variable o = is_numbered_variable o && is_longer_or_above 65535 (digits_behind_x o.name)
