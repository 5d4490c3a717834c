-- Which tokens may stand where in an item. One that may not stands as a token that is refused, with the kind of that
-- fault; the others are words and signs as the problem language has them.
use Rattle.std.specs.Prelude.{ℕ, Bool, true, false, not, ◌&&◌, ◌||◌, List, [], ◌∷◌, ◌++◌, length, ◌==◌, nat_le, nat_lt, if◌then◌else◌, codes}
use Rattle.std.specs.List.{list_any, list_all}
use Rattle.sc_input_rules.specs.declared.fault.InputKind.TheVariants.{Unexpected, Unsupported}
use Rattle.sc_input_rules.specs.declared.token.Token.{Token}
use Rattle.sc_input_rules.specs.declared.token.Token.TheVariants.{Word, Punctuation, Refused}
use Rattle.sc_input_rules.specs.declared.token.Sign.TheVariants.{Open, Close, Stop}
use Rattle.sc_input_rules.specs.Token.{is_sign, same_text}
use Rattle.sc_input_rules.specs.Tokens.{is_digit, is_letter, begins}
use Rattle.sc_input_rules.specs.Measures.{around_behind}
use Rattle.sc_tptp_rules.specs.CnfTokens.{quoted, raw_tokens}

-- ---- words

abbrev pub is_lower : ℕ → Bool
is_lower b = nat_le 97 b && nat_le b 122

abbrev pub is_upper : ℕ → Bool
is_upper b = nat_le 65 b && nat_le b 90

abbrev pub has_dollar : List ℕ → Bool
has_dollar text = list_any (λ b. b == 36) text

abbrev pub is_quoted : List ℕ → Bool
is_quoted text = same_text text quoted

-- a name: quoted, digits, or a word that begins with a lower case letter
abbrev pub name_word : ℕ → List ℕ → Token
name_word at text =
    if has_dollar text then Refused at Unsupported else
    if is_quoted text || list_all is_digit text || begins is_lower text then Word at text else Refused at Unexpected

-- a word of a formula; `$false` is the empty clause, as `$F` is in the problem language
abbrev pub formula_word : Bool → ℕ → List ℕ → Token
formula_word symbol at text =
    if same_text text (codes "$false") then Word at (codes "$F") else
    if is_quoted text || has_dollar text || list_all is_digit text then Refused at Unsupported else
    if not (begins is_letter text) then Refused at Unexpected else
    if symbol && same_text text (codes "end_of_list") then Refused at Unsupported else Word at text

-- an item's word, a role, or a word that is refused where it stands
abbrev pub other_word : ℕ → List ℕ → Token
other_word at text = if is_quoted text then Refused at Unsupported else Word at text

-- ---- places, by the tokens of the item before one

-- the name is the third token
abbrev pub in_name : List Token → Bool
in_name earlier = length earlier == 2

-- A formula stands behind `cnf`, `(`, name, `,`, role and `,`, up to the parenthesis that closes the first one.
abbrev pub in_formula : List Token → Bool
in_formula earlier = nat_le 6 (length earlier) && nat_lt 0 (around_behind 0 earlier)

abbrev pub last_is : (Token → Bool) → List Token → Bool
last_is test [] = false
last_is test (t ∷ []) = test t
last_is test (t ∷ u ∷ tokens) = last_is test (u ∷ tokens)

-- a word or `)`: no symbol may follow it
abbrev pub ends_side : Token → Bool
ends_side (Word at text) = true
ends_side (Punctuation at s) = is_sign Close (Punctuation at s)
ends_side (Refused at kind) = false

-- a word that begins with an upper case letter
abbrev pub is_variable_word : Token → Bool
is_variable_word (Word at text) = begins is_upper text
is_variable_word (Punctuation at s) = false
is_variable_word (Refused at kind) = false

-- ---- tokens in their places

abbrev pub placed_word : List Token → ℕ → List ℕ → Token
placed_word earlier at text =
    if in_name earlier then name_word at text else
    if in_formula earlier then formula_word (not (last_is ends_side earlier)) at text else other_word at text

-- A variable takes no arguments.
abbrev pub placed_token : List Token → Token → Token
placed_token earlier (Word at text) = placed_word earlier at text
placed_token earlier (Punctuation at s) =
    if is_sign Open (Punctuation at s) && in_formula earlier && last_is is_variable_word earlier then Refused at Unexpected else Punctuation at s
placed_token earlier (Refused at kind) = Refused at kind

-- Each full stop ends an item.
abbrev pub placed_behind : List Token → List Token → List Token
placed_behind earlier [] = []
placed_behind earlier (t ∷ tokens) =
    placed_token earlier t ∷ placed_behind (if is_sign Stop t then [] else earlier ++ t ∷ []) tokens

abbrev pub cnf_tokens : List ℕ → List Token
cnf_tokens bytes = placed_behind [] (raw_tokens bytes)
