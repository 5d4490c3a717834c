-- The first tokens decide how items and problems are read.
use Rattle.std.proofs.Common.{refl, ℕ, ◌≤◌, Bool, true, false, List, [], ◌∷◌, ◌++◌, length, Ok, arith}
use Rattle.std.specs.Prelude.{neg_ℤ}
use Rattle.std.specs.List.{list_all}
use Rattle.sc_input_rules.specs.declared.token.Token.{Token}
use Rattle.sc_input_rules.specs.declared.token.Token.TheVariants.{Word, Punctuation, Refused}
use Rattle.sc_input_rules.specs.declared.token.Sign.TheVariants.{Open, Close, Comma, Stop, Bar, Minus, Equal, Unequal, Colon}
use Rattle.sc_input_rules.specs.Token.{same_text}
use Rattle.sc_input_rules.specs.Tokens.{is_digit}
use Rattle.sc_input_rules.specs.Reader.{Name, unexpected, the_sign, the_word, a_word, a_listed_name, is_listed, refused_name}
use Rattle.sc_input_rules.specs.ClauseGrammar.{clause}
use Rattle.sc_input_rules.specs.Settings.{flag_words, unsupported_flags, parameter_words, unsupported_parameters}
use Rattle.sc_input_rules.specs.ProblemGrammar.{Setting, Assignment, a_numeral, number, value_of, the_close, setting, assignment, ended_clause}
use Rattle.sc_input_rules.proofs.Shrinking.{Shrinks, in_turn, either_way, a_word-shrinks, the_word-shrinks, a_listed_name-shrinks}
use Rattle.sc_input_rules.proofs.Prefix.{Agrees, Good, good_from, good_sign, taken, one_of_two}
use Rattle.sc_input_rules.proofs.PrefixInTurn.{bound}
use Rattle.sc_input_rules.proofs.PrefixOfClauses.{good_map, good_then, good_clause}

-- ---- one word

refused_agrees : (b : Bool) (t : Token) (front more : List Token) → Agrees {A = Name} more (refused_name b (t ∷ front)) (refused_name b (t ∷ (front ++ more)))
refused_agrees true t front more = refl
refused_agrees false t front more = refl

listed_agrees : (names unsupported : List (List ℕ)) (t : Token) (front more : List Token) → Agrees more (a_listed_name names unsupported (t ∷ front)) (a_listed_name names unsupported (t ∷ (front ++ more)))
listed_agrees names unsupported (Word at text) front more =
    let w : Name = record { at = at; text = text } in
    one_of_two more (is_listed names w) (Ok (w, front)) (Ok (w, front ++ more)) (refused_name (is_listed unsupported w) (Word at text ∷ front)) (refused_name (is_listed unsupported w) (Word at text ∷ (front ++ more)))
    (taken w front more) (refused_agrees (is_listed unsupported w) (Word at text) front more)
listed_agrees names unsupported (Punctuation at s) front more = refl
listed_agrees names unsupported (Refused at kind) front more = refl

pub good_listed : (n m : ℕ) (names unsupported : List (List ℕ)) → Good n m (a_listed_name names unsupported) (a_listed_name names unsupported)
good_listed n m names unsupported =
    good_from n m _ _ (a_listed_name-shrinks names unsupported) (a_listed_name-shrinks names unsupported) (λ t front more e e'. listed_agrees names unsupported t front more)

the_word_agrees : (name : List ℕ) (t : Token) (front more : List Token) → Agrees more (the_word name (t ∷ front)) (the_word name (t ∷ (front ++ more)))
the_word_agrees name (Word at text) front more =
    one_of_two more (same_text name text) (Ok (tt {0}, front)) (Ok (tt {0}, front ++ more)) (unexpected (Word at text ∷ front)) (unexpected (Word at text ∷ (front ++ more))) (taken (tt {0}) front more) refl
the_word_agrees name (Punctuation at s) front more = refl
the_word_agrees name (Refused at kind) front more = refl

pub good_the_word : (n m : ℕ) (name : List ℕ) → Good n m (the_word name) (the_word name)
good_the_word n m name = good_from n m _ _ (the_word-shrinks name) (the_word-shrinks name) (λ t front more e e'. the_word_agrees name t front more)

-- ---- numbers

numeral-shrinks : Shrinks a_numeral
numeral-shrinks tokens = in_turn (length tokens) (a_word tokens) _ (a_word-shrinks tokens) (λ w le. either_way _ (list_all is_digit w.0.text) (Ok (value_of w.0.text, w.1)) (unexpected tokens) le (omega arith))

numeral_agrees : (t : Token) (front more : List Token) → Agrees more (a_numeral (t ∷ front)) (a_numeral (t ∷ (front ++ more)))
numeral_agrees (Word at text) front more =
    one_of_two more (list_all is_digit text) (Ok (value_of text, front)) (Ok (value_of text, front ++ more)) (unexpected (Word at text ∷ front)) (unexpected (Word at text ∷ (front ++ more))) (taken (value_of text) front more) refl
numeral_agrees (Punctuation at s) front more = refl
numeral_agrees (Refused at kind) front more = refl

good_numeral : (n m : ℕ) → Good n m a_numeral a_numeral
good_numeral n m = good_from n m _ _ numeral-shrinks numeral-shrinks (λ t front more e e'. numeral_agrees t front more)

good_negative : (n m : ℕ) → Good n m (λ ts. bound (a_numeral ts) (λ v ts. Ok (neg_ℤ v, ts))) (λ ts. bound (a_numeral ts) (λ v ts. Ok (neg_ℤ v, ts)))
good_negative n m = good_map n m a_numeral neg_ℤ (good_numeral n m)

number-shrinks : Shrinks number
number-shrinks [] = omega arith
number-shrinks (Word at text ∷ tokens) = numeral-shrinks (Word at text ∷ tokens)
number-shrinks (Refused at kind ∷ tokens) = omega arith
number-shrinks (Punctuation at Minus ∷ tokens) = let e = (good_negative 0 0).short tokens in omega (arith, e)
number-shrinks (Punctuation at Open ∷ tokens) = omega arith
number-shrinks (Punctuation at Close ∷ tokens) = omega arith
number-shrinks (Punctuation at Comma ∷ tokens) = omega arith
number-shrinks (Punctuation at Stop ∷ tokens) = omega arith
number-shrinks (Punctuation at Bar ∷ tokens) = omega arith
number-shrinks (Punctuation at Equal ∷ tokens) = omega arith
number-shrinks (Punctuation at Unequal ∷ tokens) = omega arith
number-shrinks (Punctuation at Colon ∷ tokens) = omega arith

number_agrees : (n m : ℕ) (t : Token) (front more : List Token) → length (t ∷ front) ≤ n → length (t ∷ (front ++ more)) ≤ m → Agrees more (number (t ∷ front)) (number (t ∷ (front ++ more)))
number_agrees n m (Word at text) front more e e' = numeral_agrees (Word at text) front more
number_agrees n m (Refused at kind) front more e e' = refl
number_agrees n m (Punctuation at Minus) front more e e' = (good_negative n m).agrees front more (omega (arith, e)) (omega (arith, e'))
number_agrees n m (Punctuation at Open) front more e e' = refl
number_agrees n m (Punctuation at Close) front more e e' = refl
number_agrees n m (Punctuation at Comma) front more e e' = refl
number_agrees n m (Punctuation at Stop) front more e e' = refl
number_agrees n m (Punctuation at Bar) front more e e' = refl
number_agrees n m (Punctuation at Equal) front more e e' = refl
number_agrees n m (Punctuation at Unequal) front more e e' = refl
number_agrees n m (Punctuation at Colon) front more e e' = refl

good_number : (n m : ℕ) → Good n m number number
good_number n m = good_from n m number number number-shrinks number-shrinks (λ t front more e e'. number_agrees n m t front more e e')

-- ---- items

pub good_close : (n m : ℕ) → Good n m the_close the_close
good_close n m = good_then n m (the_sign Close) (λ u ts. the_sign Stop ts) (good_sign n m Close) (λ u. good_sign n m Stop)

pub good_setting : (n m : ℕ) (positive : Bool) → Good n m (setting positive) (setting positive)
good_setting n m positive =
    good_then n m (the_sign Open) (λ u ts. bound (a_listed_name flag_words unsupported_flags ts) (λ w ts. bound (the_close ts) (λ u ts. Ok (Setting w positive, ts)))) (good_sign n m Open) (λ u.
    good_then n m (a_listed_name flag_words unsupported_flags) (λ w ts. bound (the_close ts) (λ u ts. Ok (Setting w positive, ts))) (good_listed n m flag_words unsupported_flags) (λ w.
    good_map n m the_close (λ u. Setting w positive) (good_close n m)))

pub good_assignment : (n m : ℕ) → Good n m assignment assignment
good_assignment n m =
    good_then n m (the_sign Open) (λ u ts. bound (a_listed_name parameter_words unsupported_parameters ts) (λ w ts. bound (the_sign Comma ts) (λ u ts. bound (number ts) (λ v ts. bound (the_close ts) (λ u ts. Ok (Assignment w v, ts)))))) (good_sign n m Open) (λ u.
    good_then n m (a_listed_name parameter_words unsupported_parameters) (λ w ts. bound (the_sign Comma ts) (λ u ts. bound (number ts) (λ v ts. bound (the_close ts) (λ u ts. Ok (Assignment w v, ts))))) (good_listed n m parameter_words unsupported_parameters) (λ w.
    good_then n m (the_sign Comma) (λ u ts. bound (number ts) (λ v ts. bound (the_close ts) (λ u ts. Ok (Assignment w v, ts)))) (good_sign n m Comma) (λ u.
    good_then n m number (λ v ts. bound (the_close ts) (λ u ts. Ok (Assignment w v, ts))) (good_number n m) (λ v.
    good_map n m the_close (λ u. Assignment w v) (good_close n m)))))

pub good_ended_clause : (n m : ℕ) → Good n m ended_clause ended_clause
good_ended_clause n m = good_then n m clause (λ c ts. bound (the_sign Stop ts) (λ u ts. Ok (c, ts))) (good_clause n m) (λ c. good_map n m (the_sign Stop) (λ u. c) (good_sign n m Stop))
