-- A production is a function on lists of tokens. It gives its value and the tokens left, or the tokens from the
-- one at which it fails on, and the kind of the fault. The next token alone decides.
use Rattle.std.specs.Prelude.{ℕ, zero, suc, Bool, true, false, List, [], ◌∷◌, Result, Ok, Err, codes}
use Rattle.std.specs.List.{list_any}
use Rattle.sc_input_rules.specs.declared.fault.InputKind.{InputKind}
use Rattle.sc_input_rules.specs.declared.fault.InputKind.TheVariants.{Truncated, Unexpected, UnknownName, Unsupported}
use Rattle.sc_input_rules.specs.declared.token.Token.{Token}
use Rattle.sc_input_rules.specs.declared.token.Token.TheVariants.{Word, Punctuation, Refused}
use Rattle.sc_input_rules.specs.declared.token.Sign.{Sign}
use Rattle.sc_input_rules.specs.Token.{is_sign, same_text}

pub record Failure : Type 0 where
  pub left : List Token
  pub kind : InputKind

abbrev pub Read : Type 0 → Type 0
Read A = Result (A × List Token) Failure

infixl 10 ◌>>=◌
abbrev pub ◌>>=◌ : {A B : Type 0} → Read A → (A × List Token → Read B) → Read B
(Ok x) >>= f = f x
(Err e) >>= f = Err e

-- ---- the next token isn't allowed

abbrev pub kind_of : List Token → InputKind
kind_of [] = Truncated
kind_of (Word at text ∷ tokens) = Unexpected
kind_of (Punctuation at s ∷ tokens) = Unexpected
kind_of (Refused at kind ∷ tokens) = kind

abbrev pub unexpected : {A : Type 0} → List Token → Read A
unexpected tokens = Err (record { left = tokens; kind = kind_of tokens })

-- ---- one token

abbrev pub next_is : (Token → Bool) → List Token → Bool
next_is test [] = false
next_is test (t ∷ tokens) = test t

abbrev pub the_sign : Sign → List Token → Read (Unit {0})
the_sign s [] = unexpected []
the_sign s (t ∷ tokens) = elim (is_sign s t) [ true ↦ Ok (tt, tokens) | false ↦ unexpected (t ∷ tokens) ]

-- a word that may name something, and where it begins
pub record Name : Type 0 where
  pub at : ℕ
  pub text : List ℕ

abbrev pub a_word : List Token → Read Name
a_word (Word at text ∷ tokens) = Ok (record { at = at; text = text }, tokens)
a_word tokens = unexpected tokens

abbrev pub the_word : List ℕ → List Token → Read (Unit {0})
the_word name tokens = a_word tokens >>= λ w. elim (same_text name w.0.text) [ true ↦ Ok (tt, w.1) | false ↦ unexpected tokens ]

-- any word but `$F`
abbrev pub a_name : List Token → Read Name
a_name tokens = a_word tokens >>= λ w. elim (same_text (codes "$F") w.0.text) [ true ↦ unexpected tokens | false ↦ Ok w ]

-- a word of the first list; one of the second is unsupported, each other unknown
abbrev pub is_listed : List (List ℕ) → Name → Bool
is_listed names w = list_any (same_text w.text) names

abbrev pub refused_name : {A : Type 0} → Bool → List Token → Read A
refused_name true tokens = Err (record { left = tokens; kind = Unsupported })
refused_name false tokens = Err (record { left = tokens; kind = UnknownName })

abbrev pub a_listed_name : List (List ℕ) → List (List ℕ) → List Token → Read Name
a_listed_name names unsupported tokens = a_word tokens >>= λ w.
    elim (is_listed names w.0) [ true ↦ Ok w | false ↦ refused_name (is_listed unsupported w.0) tokens ]

-- ---- several

-- Where a production is read again and again, a number bounds how often; the number of the tokens is always enough.

-- one or more, with the sign between them
abbrev pub separated : {A : Type 0} → Sign → (List Token → Read A) → ℕ → List Token → Read (List A)
separated between one zero tokens = unexpected tokens
separated between one (suc n) tokens = one tokens >>= λ first.
    elim (next_is (is_sign between) first.1) [
      | true ↦ the_sign between first.1 >>= λ s. separated between one n s.1 >>= λ others. Ok (first.0 ∷ others.0, others.1)
      | false ↦ Ok (first.0 ∷ [], first.1)
    ]

-- none or more, up to a token that passes the test or the end
abbrev pub repeated : {A : Type 0} → (List Token → Bool) → (List Token → Read A) → ℕ → List Token → Read (List A)
repeated ends one zero tokens = elim (ends tokens) [ true ↦ Ok ([], tokens) | false ↦ unexpected tokens ]
repeated ends one (suc n) tokens =
    elim (ends tokens) [
      | true ↦ Ok ([], tokens)
      | false ↦ one tokens >>= λ first. repeated ends one n first.1 >>= λ others. Ok (first.0 ∷ others.0, others.1)
    ]
