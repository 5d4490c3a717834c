-- The tokens of a text, each with the byte at which it begins. Bytes that make no token stand as one that is
-- refused, with the kind of that fault.
use Rattle.std.specs.Prelude.{ℕ, Bool, false, List, ◌==◌}
use Rattle.std.specs.Cmp.Lexicographic.{pointwise}
use Rattle.sc_input_rules.specs.declared.token.Sign.{Sign}
use Rattle.sc_input_rules.specs.declared.token.Sign.TheVariants.{Open, Close, Comma, Stop, Bar, Minus, Equal, Unequal, Colon}
use Rattle.sc_input_rules.specs.declared.token.Token.{Token}
use Rattle.sc_input_rules.specs.declared.token.Token.TheVariants.{Word, Punctuation, Refused}

-- where it begins
abbrev pub at_of : Token → ℕ
at_of (Word at text) = at
at_of (Punctuation at s) = at
at_of (Refused at kind) = at

abbrev pub sign_number : Sign → ℕ
sign_number Open = 0
sign_number Close = 1
sign_number Comma = 2
sign_number Stop = 3
sign_number Bar = 4
sign_number Minus = 5
sign_number Equal = 6
sign_number Unequal = 7
sign_number Colon = 8

abbrev pub same_text : List ℕ → List ℕ → Bool
same_text = pointwise ◌==◌

abbrev pub is_sign : Sign → Token → Bool
is_sign s (Word at text) = false
is_sign s (Punctuation at t) = sign_number s == sign_number t
is_sign s (Refused at kind) = false

abbrev pub is_word : List ℕ → Token → Bool
is_word name (Word at text) = same_text name text
is_word name (Punctuation at s) = false
is_word name (Refused at kind) = false
