-- What is left to scan of a text is its last bytes: where each stands follows from how many the text has.
use Rattle.std.specs.Prelude.{ℕ, ◌-◌, Bool, true, false, List, ◌∷◌, length, map, Option, Some, None}
use Rattle.sc_input_rules.specs.declared.token.Token.{Token}
use Rattle.sc_input_rules.specs.Tokens.{tokens_from, blanked, with_dollars_refused}
use Rattle.sc_input_rules.specs.Reading.{without_colon}

-- the tokens of the last bytes of a text of so many, which begin in a comment or outside
unfoldable pub tokens_left : Bool → ℕ → List ℕ → List Token
tokens_left in_comment total rest =
    map with_dollars_refused (tokens_from (total - length rest) (blanked in_comment rest))

abbrev pub tokens_of_rest : ℕ → List ℕ → List Token
tokens_of_rest total rest = tokens_left false total rest

abbrev pub tokens_of_comment : ℕ → List ℕ → List Token
tokens_of_comment total rest = tokens_left true total rest

-- a token that was found stands in front of the others
abbrev pub in_front : Option Token → List Token → List Token
in_front None tokens = tokens
in_front (Some t) tokens = t ∷ tokens

-- a token of a text where `:` is one, or is none
abbrev pub token_as : Bool → Token → Token
token_as true t = t
token_as false t = without_colon t
