-- Where a token of a text stands, and which name with its arguments ends before it.
use Rattle.std.specs.Prelude.{ℕ, zero, suc, ◌+◌, Bool, true, false, ◌&&◌, ◌||◌, List, [], ◌∷◌, ◌++◌, reverse, Option, Some, None, codes, ◌==◌, if◌then◌else◌}
use Rattle.std.specs.List.{list_any}
use Rattle.sc_input_rules.specs.declared.token.Token.{Token}
use Rattle.sc_input_rules.specs.declared.token.Token.TheVariants.{Word, Punctuation, Refused}
use Rattle.sc_input_rules.specs.declared.token.Sign.TheVariants.{Open, Close, Comma, Stop, Colon}
use Rattle.sc_input_rules.specs.Token.{is_sign, is_word, same_text}
use Rattle.sc_input_rules.specs.ClauseGrammar.{is_equality}
use Rattle.sc_input_rules.specs.Measures.{last_literal, open_commas}
use Rattle.sc_input_rules.specs.declared.written.Occurrence.{Occurrence}

-- The sentence of the last of some tokens: what stands in it before that token, and the token.
pub record TextPosition : Type 0 where
  pub earlier : List Token
  pub last : Token

-- the position behind some tokens, where those of the sentence so far stand before them
abbrev pub position_behind : List Token → List Token → Option TextPosition
position_behind earlier [] = None
position_behind earlier (t ∷ []) = Some (record { earlier = earlier; last = t })
position_behind earlier (t ∷ u ∷ tokens) = position_behind (if is_sign Stop t then [] else earlier ++ t ∷ []) (u ∷ tokens)

-- the position of the last of the tokens of a text
abbrev pub text_position : List Token → Option TextPosition
text_position tokens = position_behind [] tokens

-- ---- formulas

-- what stands behind the first token that passes the test
abbrev pub behind_first : (Token → Bool) → List Token → Option (List Token)
behind_first test [] = None
behind_first test (t ∷ tokens) = if test t then Some tokens else behind_first test tokens

-- how many parentheses enclose what follows a token, from how many enclose the token
abbrev pub around : ℕ → Token → ℕ
around n (Punctuation at Open) = n + 1
around zero (Punctuation at Close) = 0
around (suc n) (Punctuation at Close) = n
around n t = n

-- what stands behind the last comma that no parenthesis encloses, where so many do and some tokens stand before
abbrev pub last_term : ℕ → List Token → List Token → List Token
last_term n so_far [] = so_far
last_term n so_far (t ∷ tokens) = last_term (around n t) (if n == 0 && is_sign Comma t then [] else so_far ++ t ∷ []) tokens

-- the sentence is a row of a table
abbrev pub is_table_row : List Token → Bool
is_table_row [] = false
is_table_row (t ∷ tokens) = is_word (codes "function") t || is_word (codes "predicate") t

-- the sentence is a step `instance`
abbrev pub is_instance : List Token → Bool
is_instance (number ∷ step ∷ tokens) = is_word (codes "instance") step
is_instance tokens = false

-- a clause so far, or a term so far
pub record Formula : Type 0 where
  pub is_term : Bool
  pub tokens : List Token

-- the clause behind a colon, or the last of the terms of a step `instance`, as far as it goes
abbrev pub clause_or_term : List Token → Option Formula
clause_or_term sentence =
    elim (behind_first (is_sign Colon) sentence) [
      | Some tokens ↦ Some (record { is_term = false; tokens = tokens })
      | None ↦ elim (is_instance sentence) [
        | true ↦ elim (behind_first (is_sign Open) sentence) [ Some tokens ↦ Some (record { is_term = true; tokens = last_term 0 [] tokens }) | None ↦ None ]
        | false ↦ None
      ]
    ]

-- the same of a sentence that may be a row of a table, which has none
abbrev pub formula : List Token → Option Formula
formula sentence = elim (is_table_row sentence) [ true ↦ None | false ↦ clause_or_term sentence ]

-- ---- the name that ends

-- Tokens are read backwards in the next two definitions.

-- the name before the parenthesis that opens the arguments, with as many more as commas stand in it
abbrev pub applied_name : ℕ → ℕ → List Token → Option Occurrence
applied_name enclosed arity [] = None
applied_name enclosed arity (Word at text ∷ tokens) = applied_name enclosed arity tokens
applied_name enclosed arity (Refused at kind ∷ tokens) = applied_name enclosed arity tokens
applied_name zero arity (Punctuation at s ∷ tokens) =
    elim (is_sign Open (Punctuation at s)) [
      | true ↦ elim tokens [ Word at text ∷ rest ↦ Some (record { at = at; name = text; arity = arity }) | _ ↦ None ]
      | false ↦ elim (is_sign Close (Punctuation at s)) [ true ↦ applied_name 1 arity tokens | false ↦ applied_name 0 (if is_sign Comma (Punctuation at s) then arity + 1 else arity) tokens ]
    ]
applied_name (suc n) arity (Punctuation at s ∷ tokens) =
    applied_name (if is_sign Open (Punctuation at s) then n else if is_sign Close (Punctuation at s) then n + 2 else n + 1) arity tokens

-- the name that the tokens end with, alone or with its arguments; `$F` is none
abbrev pub name_before : List Token → Option Occurrence
name_before [] = None
name_before (Word at text ∷ tokens) = if same_text text (codes "$F") then None else Some (record { at = at; name = text; arity = 0 })
name_before (Punctuation at Close ∷ tokens) = applied_name 0 1 tokens
name_before tokens = None

-- the name that ends with these tokens, where the next isn't its parenthesis
abbrev pub ended_name : List Token → Token → Option Occurrence
ended_name tokens last = elim (is_sign Open last) [ true ↦ None | false ↦ name_before (reverse tokens) ]

-- some are there
abbrev pub is_nonempty : List ℕ → Bool
is_nonempty [] = false
is_nonempty (n ∷ ns) = true

-- whether the name that ends stands in the place of a term: in an argument list, or in an equation
abbrev pub in_term_place : Formula → Token → Bool
in_term_place f last =
    let l = last_literal f.tokens in
    f.is_term || is_nonempty (open_commas [] l) || list_any is_equality l || is_equality last
