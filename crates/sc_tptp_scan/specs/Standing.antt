-- What the tokens of an item before one say of where it stands, and tokens by that alone.
use Rattle.std.specs.Prelude.{ℕ, ◌+◌, ◌-◌, Bool, true, false, not, ◌&&◌, List, [], ◌∷◌, length, Option, Some, None, ◌==◌, nat_le, nat_lt, if◌then◌else◌}
use Rattle.sc_input_rules.specs.declared.fault.InputKind.TheVariants.{Unexpected}
use Rattle.sc_input_rules.specs.declared.token.Token.{Token}
use Rattle.sc_input_rules.specs.declared.token.Token.TheVariants.{Word, Punctuation, Refused}
use Rattle.sc_input_rules.specs.declared.token.Sign.{Sign}
use Rattle.sc_input_rules.specs.declared.token.Sign.TheVariants.{Open, Close, Comma, Stop, Bar, Minus, Equal, Unequal, Colon}
use Rattle.sc_input_rules.specs.Token.{sign_number}
use Rattle.sc_input_rules.specs.Tokens.{begins}
use Rattle.sc_input_rules.specs.Measures.{around_behind}
use Rattle.sc_tptp_rules.specs.Placing.{is_upper, last_is, ends_side, is_variable_word, name_word, formula_word, other_word}
use Rattle.sc_tptp_scan.specs.declared.standing.Standing.{Standing}

-- what these tokens say
abbrev pub standing_of : List Token → Standing
standing_of earlier = record {
  count = length earlier;
  around = around_behind 0 earlier;
  side = last_is ends_side earlier;
  variable = last_is is_variable_word earlier;
}

-- ---- with one token more

abbrev pub start : Standing
start = record { count = 0; around = 0; side = false; variable = false }

-- which opens and closes nothing
abbrev pub behind_plain : Standing → Bool → Bool → Standing
behind_plain s side variable = record { count = s.count + 1; around = s.around; side = side; variable = variable }

abbrev pub behind_sign : Standing → Sign → Standing
behind_sign s Open = record { count = s.count + 1; around = s.around + 1; side = false; variable = false }
behind_sign s Close = record { count = s.count + 1; around = s.around - 1; side = true; variable = false }
behind_sign s Comma = behind_plain s false false
behind_sign s Stop = start
behind_sign s Bar = behind_plain s false false
behind_sign s Minus = behind_plain s false false
behind_sign s Equal = behind_plain s false false
behind_sign s Unequal = behind_plain s false false
behind_sign s Colon = behind_plain s false false

abbrev pub standing_behind : Standing → Token → Standing
standing_behind s (Word at text) = behind_plain s true (begins is_upper text)
standing_behind s (Punctuation at sign) = behind_sign s sign
standing_behind s (Refused at kind) = behind_plain s false false

-- ---- tokens in their places

abbrev pub is_in_formula : Standing → Bool
is_in_formula s = nat_le 6 s.count && nat_lt 0 s.around

abbrev pub word_at : Standing → ℕ → List ℕ → Token
word_at s at text =
    if s.count == 2 then name_word at text else
    if is_in_formula s then formula_word (not s.side) at text else other_word at text

abbrev pub sign_at : Standing → ℕ → Sign → Token
sign_at s at sign =
    if sign_number Open == sign_number sign && is_in_formula s && s.variable then Refused at Unexpected else Punctuation at sign

abbrev pub token_at : Standing → Token → Token
token_at s (Word at text) = word_at s at text
token_at s (Punctuation at sign) = sign_at s at sign
token_at s (Refused at kind) = Refused at kind

abbrev pub placed_with : Standing → List Token → List Token
placed_with s [] = []
placed_with s (t ∷ tokens) = token_at s t ∷ placed_with (standing_behind s t) tokens

-- a token that was found, or none, and where the next stands

abbrev pub found_at : Standing → Option Token → List Token
found_at s None = []
found_at s (Some t) = token_at s t ∷ []

abbrev pub standing_found : Standing → Option Token → Standing
standing_found s None = s
standing_found s (Some t) = standing_behind s t
