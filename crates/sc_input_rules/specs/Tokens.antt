-- From bytes to tokens.
use Rattle.std.specs.Prelude.{ℕ, ◌+◌, Bool, true, false, not, ◌&&◌, ◌||◌, List, [], ◌∷◌, map, drop, ◌==◌, nat_le, if◌then◌else◌, codes}
use Rattle.std.specs.List.{list_any}
use Rattle.sc_input_rules.specs.declared.fault.InputKind.TheVariants.{NotText, Unsupported}
use Rattle.sc_input_rules.specs.declared.token.Token.{Token}
use Rattle.sc_input_rules.specs.declared.token.Token.TheVariants.{Word, Punctuation, Refused}
use Rattle.sc_input_rules.specs.declared.token.Sign.{Sign}
use Rattle.sc_input_rules.specs.declared.token.Sign.TheVariants.{Open, Close, Comma, Stop, Bar, Minus, Equal, Unequal, Colon}
use Rattle.sc_input_rules.specs.Token.{same_text}

-- ---- bytes

abbrev pub is_one_of : List ℕ → ℕ → Bool
is_one_of bytes b = list_any (λ c. b == c) bytes

-- space, tab, line feed, carriage return, form feed
abbrev pub is_white : ℕ → Bool
is_white b = is_one_of (32 ∷ 9 ∷ 10 ∷ 13 ∷ 12 ∷ []) b

abbrev pub is_digit : ℕ → Bool
is_digit b = nat_le 48 b && nat_le b 57

abbrev pub is_letter : ℕ → Bool
is_letter b = nat_le 65 b && nat_le b 90 || nat_le 97 b && nat_le b 122

-- letters, digits, `_` and `$`
abbrev pub is_word_byte : ℕ → Bool
is_word_byte b = is_letter b || is_digit b || is_one_of (codes "_$") b

abbrev pub is_printable : ℕ → Bool
is_printable b = nat_le 32 b && nat_le b 126

-- ---- comments

-- A `%` and what follows it, up to the end of its line, become spaces.
abbrev pub blanked : Bool → List ℕ → List ℕ
blanked in_comment [] = []
blanked in_comment (b ∷ bs) =
    let hidden = not (b == 10) && (in_comment || b == 37) in
    (if hidden then 32 else b) ∷ blanked hidden bs

-- ---- tokens

abbrev pub sign_of : List (ℕ × Sign)
sign_of =
    (40, Open) ∷ (41, Close) ∷ (44, Comma) ∷ (46, Stop) ∷ (124, Bar) ∷ (45, Minus) ∷ (61, Equal) ∷ (58, Colon) ∷ []

-- a byte that is no part of a word
abbrev pub single : List (ℕ × Sign) → ℕ → ℕ → Token
single [] at b = Refused at (if is_printable b then Unsupported else NotText)
single (s ∷ signs) at b = if b == s.0 then Punctuation at s.1 else single signs at b

-- A byte of a word joins the word that the next byte begins, if it does.
abbrev pub with_word_byte : ℕ → ℕ → Bool → List Token → List Token
with_word_byte at b true (Word next text ∷ tokens) = Word at (b ∷ text) ∷ tokens
with_word_byte at b joins tokens = Word at (b ∷ []) ∷ tokens

-- A `!` joins the `=` that follows it, if one does.
abbrev pub with_exclamation : ℕ → Bool → List Token → List Token
with_exclamation at joins tokens = if joins then Punctuation at Unequal ∷ drop 1 tokens else Refused at Unsupported ∷ tokens

abbrev pub begins : (ℕ → Bool) → List ℕ → Bool
begins test [] = false
begins test (b ∷ bs) = test b

abbrev pub with_byte : ℕ → ℕ → List ℕ → List Token → List Token
with_byte at b next tokens =
    if is_white b then tokens else
    if is_word_byte b then with_word_byte at b (begins is_word_byte next) tokens else
    if b == 33 then with_exclamation at (begins (λ c. c == 61) next) tokens else single sign_of at b ∷ tokens

abbrev pub tokens_from : ℕ → List ℕ → List Token
tokens_from at [] = []
tokens_from at (b ∷ bs) = with_byte at b bs (tokens_from (at + 1) bs)

-- A word with `$` is refused, but for `$F`.
abbrev pub with_dollars_refused : Token → Token
with_dollars_refused (Word at text) =
    if list_any (λ b. b == 36) text && not (same_text text (codes "$F")) then Refused at Unsupported else Word at text
with_dollars_refused (Punctuation at s) = Punctuation at s
with_dollars_refused (Refused at kind) = Refused at kind

-- the tokens of the bytes from one on, comments and white space left out
abbrev pub tokens_behind : ℕ → List ℕ → List Token
tokens_behind at bytes = map with_dollars_refused (tokens_from at (blanked false (drop at bytes)))

abbrev pub tokens : List ℕ → List Token
tokens bytes = tokens_behind 0 bytes
