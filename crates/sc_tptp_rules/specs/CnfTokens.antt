-- From bytes of TPTP's clause form to tokens. `~` is the sign of negation, which the problem language writes `-`.
use Rattle.std.specs.Prelude.{ℕ, ◌+◌, ◌&&◌, List, [], ◌∷◌, ◌==◌, if◌then◌else◌, codes}
use Rattle.sc_input_rules.specs.declared.fault.InputKind.TheVariants.{NotText, Truncated, Unsupported}
use Rattle.sc_input_rules.specs.declared.token.Token.{Token}
use Rattle.sc_input_rules.specs.declared.token.Token.TheVariants.{Word, Refused}
use Rattle.sc_input_rules.specs.declared.token.Sign.{Sign}
use Rattle.sc_input_rules.specs.declared.token.Sign.TheVariants.{Open, Close, Comma, Stop, Bar, Minus, Equal}
use Rattle.sc_input_rules.specs.Tokens.{is_white, is_word_byte, is_printable, begins, single, with_word_byte, with_exclamation}

abbrev pub cnf_sign_of : List (ℕ × Sign)
cnf_sign_of = (40, Open) ∷ (41, Close) ∷ (44, Comma) ∷ (46, Stop) ∷ (124, Bar) ∷ (126, Minus) ∷ (61, Equal) ∷ []

-- the word that stands for a quoted name
abbrev pub quoted : List ℕ
quoted = codes "'"

-- Where a byte stands: among tokens, in a comment up to the end of its line, at the `*` of `/*`, in such a comment, at
-- the `/` of `*/`, in a quoted name.
pub data Region : Type 0 where
  Outside : Region
  InLine : Region
  AtOpening : Region
  InComment : Region
  AtClosing : Region
  InQuotes : Region

-- where the byte behind a byte stands, which is followed by these
abbrev pub region_outside : ℕ → List ℕ → Region
region_outside b next =
    if b == 37 then InLine else if b == 39 then InQuotes else if b == 47 && begins (λ c. c == 42) next then AtOpening else Outside

abbrev pub region_behind : Region → ℕ → List ℕ → Region
region_behind Outside b next = region_outside b next
region_behind InLine b next = if b == 10 then Outside else InLine
region_behind AtOpening b next = InComment
region_behind InComment b next = if b == 42 && begins (λ c. c == 47) next then AtClosing else InComment
region_behind AtClosing b next = Outside
region_behind InQuotes b next = if b == 39 then Outside else InQuotes

-- a byte among tokens, which is followed by these bytes, and the tokens behind it
abbrev pub with_byte_outside : ℕ → ℕ → List ℕ → List Token → List Token
with_byte_outside at b next tokens =
    if is_white b then tokens else
    if b == 37 then tokens else
    if b == 39 then Word at quoted ∷ tokens else
    if b == 47 && begins (λ c. c == 42) next then tokens else
    if is_word_byte b then with_word_byte at b (begins is_word_byte next) tokens else
    if b == 33 then with_exclamation at (begins (λ c. c == 61) next) tokens else single cnf_sign_of at b ∷ tokens

-- A byte of a quoted name is printable and no `\`, else it is refused, and the text isn't read further.
abbrev pub with_quoted_byte : ℕ → ℕ → List Token → List Token
with_quoted_byte at b tokens =
    if b == 92 then Refused at Unsupported ∷ [] else if is_printable b then tokens else Refused at NotText ∷ []

abbrev pub with_cnf_byte : Region → ℕ → ℕ → List ℕ → List Token → List Token
with_cnf_byte Outside at b next tokens = with_byte_outside at b next tokens
with_cnf_byte InLine at b next tokens = tokens
with_cnf_byte AtOpening at b next tokens = tokens
with_cnf_byte InComment at b next tokens = tokens
with_cnf_byte AtClosing at b next tokens = tokens
with_cnf_byte InQuotes at b next tokens = with_quoted_byte at b tokens

-- at the end of the text: a comment or a quoted name without an end is cut off there
abbrev pub tokens_at_end : Region → ℕ → List Token
tokens_at_end Outside at = []
tokens_at_end InLine at = []
tokens_at_end AtOpening at = Refused at Truncated ∷ []
tokens_at_end InComment at = Refused at Truncated ∷ []
tokens_at_end AtClosing at = []
tokens_at_end InQuotes at = Refused at Truncated ∷ []

abbrev pub tokens_in : Region → ℕ → List ℕ → List Token
tokens_in region at [] = tokens_at_end region at
tokens_in region at (b ∷ bs) = with_cnf_byte region at b bs (tokens_in (region_behind region b bs) (at + 1) bs)

-- the tokens of the bytes, comments and white space left out
abbrev pub raw_tokens : List ℕ → List Token
raw_tokens bytes = tokens_in Outside 0 bytes
