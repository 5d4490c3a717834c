-- Weight, depth and arity of a clause so far, counted over its tokens.
use Rattle.std.specs.Prelude.{ℕ, ◌+◌, ◌-◌, max, Bool, true, false, List, [], ◌∷◌, count_by, if◌then◌else◌}
use Rattle.std.specs.List.{list_any, after_last}
use Rattle.sc_input_rules.specs.declared.token.Token.{Token}
use Rattle.sc_input_rules.specs.declared.token.Token.TheVariants.{Word, Punctuation, Refused}
use Rattle.sc_input_rules.specs.declared.token.Sign.TheVariants.{Open, Close, Comma, Bar, Minus}
use Rattle.sc_input_rules.specs.Token.{is_sign}
use Rattle.sc_input_rules.specs.ClauseGrammar.{is_equality}

-- ---- weight

-- each word counts one, and each `=` and `!=`
abbrev pub has_weight : Token → Bool
has_weight (Word at text) = true
has_weight (Punctuation at s) = is_equality (Punctuation at s)
has_weight (Refused at kind) = false

abbrev pub weight_so_far : List Token → ℕ
weight_so_far tokens = count_by has_weight tokens

-- ---- depth

-- the greatest level of a word: 1 more than the number of argument lists around it
abbrev pub greatest_level : ℕ → List Token → ℕ
greatest_level around [] = 0
greatest_level around (Word at text ∷ tokens) = max (around + 1) (greatest_level around tokens)
greatest_level around (Punctuation at s ∷ tokens) =
    greatest_level (if is_sign Open (Punctuation at s) then around + 1 else if is_sign Close (Punctuation at s) then around - 1 else around) tokens
greatest_level around (Refused at kind ∷ tokens) = greatest_level around tokens

-- how many parentheses are open behind the tokens, where so many are open before them
abbrev pub around_behind : ℕ → List Token → ℕ
around_behind around [] = around
around_behind around (Word at text ∷ tokens) = around_behind around tokens
around_behind around (Punctuation at s ∷ tokens) =
    around_behind (if is_sign Open (Punctuation at s) then around + 1 else if is_sign Close (Punctuation at s) then around - 1 else around) tokens
around_behind around (Refused at kind ∷ tokens) = around_behind around tokens

-- without the parenthesis that opens an equation
abbrev pub without_bracket : List Token → List Token
without_bracket [] = []
without_bracket (t ∷ tokens) = if is_sign Open t then tokens else t ∷ tokens

-- without the sign of a negative literal
abbrev pub without_minus : List Token → List Token
without_minus [] = []
without_minus (t ∷ tokens) = if is_sign Minus t then tokens else t ∷ tokens

-- the last literal so far, without its sign and the parenthesis round an equation
abbrev pub last_literal : List Token → List Token
last_literal tokens = without_bracket (without_minus (after_last (is_sign Bar) tokens))

-- the depth of an atom so far: its greatest level, and 1 more where it is an equation
abbrev pub depth_of_atom : List Token → ℕ
depth_of_atom tokens = greatest_level 0 tokens + (if list_any is_equality tokens then 1 else 0)

-- the depth of the last atom
abbrev pub depth_so_far : List Token → ℕ
depth_so_far tokens = depth_of_atom (last_literal tokens)

-- ---- arity

-- one comma more in the innermost parenthesis
abbrev pub one_more : List ℕ → List ℕ
one_more [] = []
one_more (n ∷ ns) = (n + 1) ∷ ns

-- the innermost parenthesis closed
abbrev pub without_innermost : List ℕ → List ℕ
without_innermost [] = []
without_innermost (n ∷ ns) = ns

-- the commas in the open parentheses behind a token, from those before it
abbrev pub commas_behind : Token → List ℕ → List ℕ
commas_behind t commas =
    if is_sign Open t then 0 ∷ commas else if is_sign Close t then without_innermost commas else if is_sign Comma t then one_more commas else commas

-- of the parentheses that are open, the innermost first, how many commas stand in each
abbrev pub open_commas : List ℕ → List Token → List ℕ
open_commas commas [] = commas
open_commas commas (t ∷ tokens) = open_commas (commas_behind t commas) tokens

-- the first of some numbers, 0 where there is none
abbrev pub first_or_none : List ℕ → ℕ
first_or_none [] = 0
first_or_none (n ∷ ns) = n

-- how many arguments stand before the last comma, if the last token is one
abbrev pub arguments_so_far : List Token → ℕ
arguments_so_far tokens = first_or_none (open_commas [] tokens)
