-- The words before the parentheses that are open, and the name that ends with a token, by the numbers of their tokens.
use Rattle.std.specs.Prelude.{◌≡◌, ℕ, ◌+◌, min, Bool, true, ◌&&◌, nat_le, List, [], ◌∷◌, Option, Some, None, codes, slice_get, option_map, option_and_then, if◌then◌else◌}
use Rattle.std.specs.List.{list_all}
use Rattle.sc_term.specs.declared.symbol.Role.{Role}
use Rattle.sc_term.specs.declared.symbol.Symbol.{Symbol}
use Rattle.sc_input_rules.specs.Tokens.{is_digit, begins}
use Rattle.sc_text_rules.specs.TextWords.{digits_behind_x, is_some_digits}
use Rattle.sc_input_rules.specs.declared.token.Token.{Token}
use Rattle.sc_input_rules.specs.declared.token.Token.TheVariants.{Word, Punctuation, Refused}
use Rattle.sc_input_rules.specs.declared.token.Sign.TheVariants.{Open, Close}
use Rattle.sc_input_rules.specs.Token.{is_sign, same_text}
use Rattle.sc_input_rules.specs.Reader.{Name}
use Rattle.sc_input_rules.specs.declared.written.Occurrence.{Occurrence}
use Rattle.sc_text_limits.specs.declared.formula.NameEnding.{NameEnding}
use Rattle.sc_text_limits.specs.declared.formula.NameEnding.TheVariants as of
use Rattle.sc_text_limits.specs.declared.names.EndedName.{EndedName}

-- ---- words

-- the word that a token is
abbrev pub word_of : Token → Option Name
word_of (Word at text) = Some (record { at = at; text = text })
word_of (Punctuation at s) = None
word_of (Refused at kind) = None

-- the word of a number
abbrev pub word_at : List Token → ℕ → Option Name
word_at tokens n = option_and_then word_of (slice_get tokens n)

-- Tokens are read backwards in what follows.

-- the first token, if it is a word
abbrev pub first_word : List Token → Option Name
first_word [] = None
first_word (t ∷ tokens) = word_of t

-- without the innermost
abbrev pub without_first : {X : Type 0} → List X → List X
without_first [] = []
without_first (w ∷ ws) = ws

-- what stands before the parentheses that are open, behind one token more; `before` stands before that token
abbrev pub words_behind : {X : Type 0} → X → Token → List X → List X
words_behind before t words = if is_sign Open t then before ∷ words else if is_sign Close t then without_first words else words

-- of the parentheses that are open, the innermost first, the word before each, if it is one
abbrev pub open_words : List Token → List (Option Name)
open_words [] = []
open_words (t ∷ tokens) = words_behind (first_word tokens) t (open_words tokens)

-- ---- names

-- a word with so many arguments
abbrev pub applied_to : ℕ → Name → Occurrence
applied_to arity w = record { at = w.at; name = w.text; arity = arity }

-- the name that ends with a `)`, by the words before the open parentheses and by their commas, the innermost first
abbrev pub applied_by : List (Option ℕ) → List ℕ → NameEnding
applied_by [] commas = of.Nothing
applied_by (None ∷ ws) commas = of.Nothing
applied_by (Some n ∷ ws) [] = of.Nothing
applied_by (Some n ∷ ws) (c ∷ cs) = of.Applied n (min c 8 + 1)

-- a word alone, where it is a name
abbrev pub name_alone : Name → Option Occurrence
name_alone w = if same_text w.text (codes "$F") then None else Some (applied_to 0 w)

-- the word that ends, if the last token is one
abbrev pub word_ended : NameEnding → Option ℕ
word_ended of.Nothing = None
word_ended (of.Word n) = Some n
word_ended (of.Applied n arity) = None

-- the name that ends, by the tokens of the text
abbrev pub name_ended : List Token → NameEnding → Option Occurrence
name_ended tokens of.Nothing = None
name_ended tokens (of.Word n) = option_and_then name_alone (word_at tokens n)
name_ended tokens (of.Applied n arity) = option_map (applied_to arity) (word_at tokens n)

-- a name, as the definitions of reading have it
abbrev pub as_occurrence : EndedName → Occurrence
as_occurrence n = record { at = n.at; name = n.text.now; arity = n.arity }

-- the symbol of a name
abbrev pub symbol_in : Role → Occurrence → Symbol
symbol_in role o = record { name = o.name; arity = o.arity; role = role }

-- whether it begins as a variable does
abbrev pub begins_variable : List ℕ → Bool
begins_variable text = begins (λ b. nat_le 117 b && nat_le b 122) text

-- the digits of a word of `x` and digits, of which there are some
pub record IsDigits (text digits : List ℕ) : Type 0 where
  pub are : digits ≡ digits_behind_x text
  pub some : is_some_digits (digits_behind_x text) ≡ true
  pub numeral : list_all is_digit digits ≡ true

-- a name whose arguments are counted up to 9
abbrev pub low_arity : Occurrence → Occurrence
low_arity o = record { at = o.at; name = o.name; arity = min o.arity 9 }
