-- Sides as trees, each with the tokens that spell it and the occurrences that are read of those.
use Rattle.std.proofs.Common.{◌≡◌, ℕ, ◌+◌, false, List, [], ◌∷◌, ◌++◌}
use Rattle.std.specs.Prelude.{codes}
use Rattle.sc_input_rules.specs.declared.token.Token.{Token}
use Rattle.sc_input_rules.specs.declared.token.Token.TheVariants.{Word, Punctuation}
use Rattle.sc_input_rules.specs.declared.token.Sign.TheVariants.{Open, Close, Comma}
use Rattle.sc_input_rules.specs.Token.{same_text}
use Rattle.sc_input_rules.specs.declared.written.Occurrence.{Occurrence}
use Rattle.sc_input_rules.specs.Syntax.{Side}

-- a name and where it begins, and the parentheses round its arguments, if it has any
pub record Head : Type 0 where
  pub at : ℕ
  pub text : List ℕ
  pub opening : ℕ
  pub closing : ℕ

-- Sides in a row. An entry has its arguments, and the place of the comma behind it, if another follows.
pub data Sides : Type 0 where
  Empty : Sides
  Entry : Head → Sides → ℕ → Sides → Sides

-- ---- tokens

abbrev pub in_brackets : Head → Sides → List Token → List Token
in_brackets h Empty inside = []
in_brackets h (Entry g args comma others) inside = Punctuation h.opening Open ∷ (inside ++ Punctuation h.closing Close ∷ [])

abbrev pub behind_comma : ℕ → Sides → List Token → List Token
behind_comma at Empty tokens = []
behind_comma at (Entry g args comma others) tokens = Punctuation at Comma ∷ tokens

abbrev pub tokens_of : Sides → List Token
tokens_of Empty = []
tokens_of (Entry h args comma others) = Word h.at h.text ∷ (in_brackets h args (tokens_of args) ++ behind_comma comma others (tokens_of others))

abbrev pub side_tokens : Head → Sides → List Token
side_tokens h args = Word h.at h.text ∷ in_brackets h args (tokens_of args)

-- ---- occurrences

abbrev pub count : Sides → ℕ
count Empty = 0
count (Entry h args comma others) = count others + 1

abbrev pub occurrence : Head → Sides → Occurrence
occurrence h args = record { at = h.at; name = h.text; arity = count args }

abbrev pub occurrences : Sides → Side
occurrences Empty = []
occurrences (Entry h args comma others) = occurrence h args ∷ (occurrences args ++ occurrences others)

abbrev pub side_of : Head → Sides → Side
side_of h args = occurrence h args ∷ occurrences args

-- ---- names

abbrev pub IsName : Head → Type 0
IsName h = same_text (codes "$F") h.text ≡ false

abbrev pub AreNames : Sides → Type 0
AreNames Empty = Unit {0}
AreNames (Entry h args comma others) = IsName h × AreNames args × AreNames others
