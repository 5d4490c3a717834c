-- What the loop keeps of a clause or term so far, against its tokens.
use Rattle.std.specs.Prelude.{◌≡◌, ◌==◌, ◌||◌, nat_lt, ℕ, Bool, List, [], length, map, reverse, Option, option_map, option_and_then, if◌then◌else◌}
use Rattle.sc_input_rules.specs.declared.token.Token.{Token}
use Rattle.sc_input_rules.specs.declared.token.Token.TheVariants.{Word, Punctuation, Refused}
use Rattle.sc_input_rules.specs.declared.token.Sign.TheVariants.{Close}
use Rattle.sc_input_rules.specs.Token.{is_sign}
use Rattle.sc_input_rules.specs.Measures.{open_commas}
use Rattle.sc_input_rules.specs.Reader.{Name}
use Rattle.sc_input_rules.specs.ClauseGrammar.{is_equality}
use Rattle.sc_input_limits.specs.declared.count.AtomCount.{AtomCount}
use Rattle.sc_input_limits.specs.Counted.{Counted}
use Rattle.sc_text_rules.specs.TextPosition.{name_before}
use Rattle.sc_text_limits.specs.declared.formula.NameEnding.{NameEnding}
use Rattle.sc_text_limits.specs.declared.formula.NameEnding.TheVariants as of
use Rattle.sc_text_limits.specs.declared.formula.FormulaCount.{FormulaCount}
use Rattle.sc_text_limits.specs.Names.{word_at, first_word, open_words, word_ended, name_ended, applied_by, low_arity}

-- the words of numbers
abbrev pub words_at : List Token → List (Option ℕ) → List (Option Name)
words_at tokens numbers = map (option_and_then (word_at tokens)) numbers

-- no parenthesis is open behind the tokens
abbrev pub is_outer : List Token → Bool
is_outer formula = length (open_commas [] formula) == 0

-- whether a name that ends before a token stands in the place of a term
abbrev pub is_in_term : Bool → AtomCount → Token → Bool
is_in_term is_term atom last = is_term || nat_lt 0 atom.around || atom.equality || is_equality last

-- the name that ends with a token of that number, behind a clause or term so far
abbrev pub ended_by : ℕ → Token → FormulaCount → NameEnding
ended_by n (Word at text) f = of.Word n
ended_by n (Punctuation at s) f = if is_sign Close (Punctuation at s) then applied_by (reverse f.words) (reverse f.count.commas) else of.Nothing
ended_by n (Refused at kind) f = of.Nothing

-- `formula` is the clause or term so far, and `tokens` are those of the whole text
pub record IsKept (tokens formula : List Token) (f : FormulaCount) : Type 0 where
  pub count : Counted formula f.count
  pub words : words_at tokens (reverse f.words) ≡ open_words (reverse formula)
  pub before : option_and_then (word_at tokens) (word_ended f.ended) ≡ first_word (reverse formula)
  pub ended : name_ended tokens f.ended ≡ option_map low_arity (name_before (reverse formula))
