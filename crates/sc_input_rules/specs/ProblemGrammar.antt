-- The productions number, item and problem.
use Rattle.std.specs.Prelude.{ℕ, Bool, true, false, List, [], ◌∷◌, length, Ok, codes, ℤ, pos, neg_ℤ}
use Rattle.std.specs.List.{list_all}
use Rattle.std.specs.Str.Parse.{digits_value}
use Rattle.sc_input_rules.specs.declared.token.Token.{Token}
use Rattle.sc_input_rules.specs.declared.token.Token.TheVariants.{Punctuation}
use Rattle.sc_input_rules.specs.declared.token.Sign.TheVariants.{Open, Close, Comma, Stop, Minus}
use Rattle.sc_input_rules.specs.Token.{is_word, same_text}
use Rattle.sc_input_rules.specs.Tokens.{is_digit}
use Rattle.sc_input_rules.specs.Reader.{Read, ◌>>=◌, Name, unexpected, next_is, the_sign, a_word, the_word, a_listed_name, repeated}
use Rattle.sc_input_rules.specs.Syntax.{WrittenClause}
use Rattle.sc_input_rules.specs.ClauseGrammar.{clause}
use Rattle.sc_input_rules.specs.Settings.{item_words, unsupported_items, list_words, unsupported_lists, flag_words, unsupported_flags, parameter_words, unsupported_parameters}

-- A list has its name, and its clauses as they are written.
pub data Item : Type 0 where
  Setting : Name → Bool → Item
  Assignment : Name → ℤ → Item
  Listing : Name → List WrittenClause → Item

-- ---- numbers

abbrev pub value_of : List ℕ → ℤ
value_of digits = pos (digits_value 10 digits)

abbrev pub a_numeral : List Token → Read ℤ
a_numeral tokens = a_word tokens >>= λ w. elim (list_all is_digit w.0.text) [ true ↦ Ok (value_of w.0.text, w.1) | false ↦ unexpected tokens ]

-- digits, or `-` and digits
abbrev pub number : List Token → Read ℤ
number (Punctuation at Minus ∷ tokens) = a_numeral tokens >>= λ n. Ok (neg_ℤ n.0, n.1)
number tokens = a_numeral tokens

-- ---- items

-- `)` and `.`
abbrev pub the_close : List Token → Read (Unit {0})
the_close tokens = the_sign Close tokens >>= λ close. the_sign Stop close.1

-- ( word ) .
abbrev pub setting : Bool → List Token → Read Item
setting positive tokens = do
  opening ← the_sign Open tokens
  name ← a_listed_name flag_words unsupported_flags opening.1
  end ← the_close name.1
  Ok (Setting name.0 positive, end.1)

-- ( word , number ) .
abbrev pub assignment : List Token → Read Item
assignment tokens = do
  opening ← the_sign Open tokens
  name ← a_listed_name parameter_words unsupported_parameters opening.1
  comma ← the_sign Comma name.1
  value ← number comma.1
  end ← the_close value.1
  Ok (Assignment name.0 value.0, end.1)

abbrev pub ended_clause : List Token → Read WrittenClause
ended_clause tokens = clause tokens >>= λ c. the_sign Stop c.1 >>= λ stop. Ok (c.0, stop.1)

-- whether the word in an item's or a clause's place is this one
abbrev pub next_is_word : List ℕ → List Token → Bool
next_is_word name tokens = next_is (is_word name) tokens

-- ( word ) . clauses end_of_list .
abbrev pub listing : List Token → Read Item
listing tokens = do
  opening ← the_sign Open tokens
  name ← a_listed_name list_words unsupported_lists opening.1
  begin ← the_close name.1
  clauses ← repeated (next_is_word (codes "end_of_list")) ended_clause (length begin.1) begin.1
  end ← the_word (codes "end_of_list") clauses.1
  stop ← the_sign Stop end.1
  Ok (Listing name.0 clauses.0, stop.1)

abbrev pub item_named : List ℕ → List Token → Read Item
item_named name tokens =
    elim (same_text name (codes "set")) [
      | true ↦ setting true tokens
      | false ↦ elim (same_text name (codes "clear")) [
        | true ↦ setting false tokens
        | false ↦ elim (same_text name (codes "assign")) [ true ↦ assignment tokens | false ↦ listing tokens ]
      ]
    ]

abbrev pub item : List Token → Read Item
item tokens = a_listed_name item_words unsupported_items tokens >>= λ name. item_named name.0.text name.1

-- ---- problems

abbrev pub at_end : List Token → Bool
at_end [] = true
at_end (t ∷ tokens) = false

abbrev pub problem : List Token → Read (List Item)
problem tokens = repeated at_end item (length tokens) tokens

-- a problem before a proof or a run
abbrev pub at_proof_or_end : List Token → Bool
at_proof_or_end [] = true
at_proof_or_end (t ∷ tokens) = elim (is_word (codes "proof") t) [ true ↦ true | false ↦ is_word (codes "run") t ]

abbrev pub items : List Token → Read (List Item)
items tokens = repeated at_proof_or_end item (length tokens) tokens
