-- Numbers as code has them: what is beyond ten digits stands as 10,000,000,000 with its sign.
use Rattle.std.specs.Prelude.{ℕ, min, List, ◌∷◌, Option, Some, None, option_map, ℤ, pos, negsuc, neg_ℤ, ◌≤ℤ◌, codes, option_and_then, if◌then◌else◌, drop}
use Rattle.std.specs.List.{list_all}
use Rattle.std.specs.Str.Parse.{digits_value}
use Rattle.sc_input_rules.specs.declared.token.Token.{Token}
use Rattle.sc_input_rules.specs.declared.token.Token.TheVariants.{Word, Punctuation}
use Rattle.sc_input_rules.specs.declared.token.Sign.TheVariants.{Minus}
use Rattle.sc_input_rules.specs.Token.{is_word}
use Rattle.sc_input_rules.specs.Tokens.{is_digit}
use Rattle.sc_input_rules.specs.ClauseLimits.{when, first_at}
use Rattle.sc_input_rules.specs.ProblemLimits.{is_outside, range_of}
use Rattle.sc_input_rules.specs.Settings as settings
use Rattle.sc_input_limits.specs.declared.range.Range.{Range}

-- a range, as the definitions of reading have it
abbrev pub as_range : Range → settings.Range
as_range r = record { low = r.low; high = r.high }

-- the number that the first word writes
abbrev pub capped_numeral : List Token → Option ℕ
capped_numeral (Word at text ∷ tokens) = if list_all is_digit text then Some (min (digits_value 10 text) 10000000000) else None
capped_numeral tokens = None

-- digits, or `-` and digits
abbrev pub capped_number : List Token → Option ℤ
capped_number (Punctuation at Minus ∷ tokens) = option_map (λ n. neg_ℤ (pos n)) (capped_numeral tokens)
capped_number tokens = option_map pos (capped_numeral tokens)

-- the number that the value of an item so far begins with
abbrev pub number_of_value : List Token → Option ℤ
number_of_value sentence = capped_number (drop 4 sentence)

-- the ranges that parameters have
pub record IsShort (range : settings.Range) : Type 0 where
  pub low : negsuc 0 ≤ℤ range.low
  pub lowest : range.low ≤ℤ pos 1
  pub high : pos 1 ≤ℤ range.high
  pub highest : range.high ≤ℤ pos 2147483647

-- where the value of an assignment begins, if it is outside the range of the parameter
abbrev pub told_at : Token → Token → List Token → Option ℕ
told_at item name value = when (is_word (codes "assign") item) (option_and_then (λ range. when (is_outside range value) (first_at value)) (range_of name))
