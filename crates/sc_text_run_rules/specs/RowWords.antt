-- Numbers and words of the rows of a run text.
use Rattle.std.specs.Prelude.{ℕ, zero, suc, ◌+◌, Bool, true, false, not, ◌&&◌, List, [], ◌∷◌, length, Ok, Err, nat_le, ◌==◌}
use Rattle.std.specs.List.{list_all}
use Rattle.std.specs.Str.Parse.{digits_value}
use Rattle.sc_interp.specs.declared.plain.Truth.{Truth}
use Rattle.sc_interp.specs.declared.plain.Truth.TheVariants as truth
use Rattle.sc_interp.specs.declared.plain.VersionName.{VersionName}
use Rattle.sc_core_rules.specs.declared.row.Cause.{Cause}
use Rattle.sc_core_rules.specs.declared.row.Cause.TheVariants as cause
use Rattle.sc_text_run_rules.specs.declared.run.FinderEnd.{FinderEnd}
use Rattle.sc_text_run_rules.specs.declared.run.FinderEnd.TheVariants as end
use Rattle.sc_input_rules.specs.declared.fault.InputKind.TheVariants.{OutOfRange}
use Rattle.sc_input_rules.specs.declared.token.Token.{Token}
use Rattle.sc_input_rules.specs.declared.token.Token.TheVariants.{Word}
use Rattle.sc_input_rules.specs.declared.token.Sign.TheVariants.{Stop}
use Rattle.sc_input_rules.specs.Tokens.{is_digit}
use Rattle.sc_input_rules.specs.Reader.{Read, ◌>>=◌, unexpected, a_word, the_sign, the_word, repeated}
use Rattle.sc_input_rules.specs.ProblemGrammar.{next_is_word}
use Rattle.sc_text_rules.specs.TextWords.{is_longer_or_above}
use Rattle.sc_text_run_rules.specs.RunText.{cause_word, truth_word, end_word}

-- ---- numbers

-- at most 10 digits, of a number from low to high
abbrev pub is_in_range : ℕ → ℕ → List ℕ → Bool
is_in_range low high digits = nat_le low (digits_value 10 digits) && not (is_longer_or_above high digits)

-- what the digits are, where they are in the range; else they are out of range
abbrev pub ranged : ℕ → ℕ → List ℕ → List Token → List Token → Read ℕ
ranged low high digits behind tokens =
    elim (is_in_range low high digits) [ true ↦ Ok (digits_value 10 digits, behind) | false ↦ Err (record { left = tokens; kind = OutOfRange }) ]

-- digits whose number passes the test, which may be from low to high
abbrev pub a_number_in : (ℕ → Bool) → ℕ → ℕ → List Token → Read ℕ
a_number_in test low high tokens = a_word tokens >>= λ w.
    elim (list_all is_digit w.0.text && test (digits_value 10 w.0.text)) [ true ↦ ranged low high w.0.text w.1 tokens | false ↦ unexpected tokens ]

-- any number from low to high
abbrev pub a_number_from : ℕ → ℕ → List Token → Read ℕ
a_number_from low high tokens = a_number_in (λ n. true) low high tokens

-- a number of a row is at most 4294967295
abbrev pub a_row_number : List Token → Read ℕ
a_row_number tokens = a_number_from 0 4294967295 tokens

-- this number
abbrev pub the_row_number : ℕ → List Token → Read ℕ
the_row_number n tokens = a_number_in (λ m. m == n) 0 4294967295 tokens

-- ---- several

-- the next token is no number
abbrev pub no_digits : List Token → Bool
no_digits (Word at text ∷ tokens) = not (list_all is_digit text)
no_digits tokens = true

-- numbers up to the full stop
abbrev pub numbers : List Token → Read (List ℕ)
numbers tokens = repeated no_digits a_row_number (length tokens) tokens >>= λ ns. the_sign Stop ns.1 >>= λ stop. Ok (ns.0, stop.1)

-- as many as counted, the first with the number given; the number of the tokens bounds how often
abbrev pub counted : {A : Type 0} → (ℕ → List Token → Read A) → ℕ → ℕ → ℕ → List Token → Read (List A)
counted one zero first count tokens = elim count [ zero ↦ Ok ([], tokens) | suc m ↦ unexpected tokens ]
counted one (suc n) first count tokens =
    elim count [
      | zero ↦ Ok ([], tokens)
      | suc m ↦ one first tokens >>= λ x. counted one n (first + 1) m x.1 >>= λ xs. Ok (x.0 ∷ xs.0, xs.1)
    ]

-- rows, as long as the word comes next; what is read of one knows where the rows stand, and moves that on; the number
-- bounds how often
abbrev pub rows_of : {A S : Type 0} → List ℕ → (S → List Token → Read A) → (S → A → S) → ℕ → S → List Token → Read (List A)
rows_of word one moved zero s tokens = Ok ([], tokens)
rows_of word one moved (suc n) s tokens =
    elim (next_is_word word tokens) [
      | true ↦ one s tokens >>= λ a. rows_of word one moved n (moved s a.0) a.1 >>= λ others. Ok (a.0 ∷ others.0, others.1)
      | false ↦ Ok ([], tokens)
    ]

-- ---- words

-- one of the values, by its word
abbrev pub one_of : {A : Type 0} → (A → List ℕ) → List A → List Token → Read A
one_of word_of [] tokens = unexpected tokens
one_of word_of (a ∷ others) tokens = elim (next_is_word (word_of a) tokens) [ true ↦ the_word (word_of a) tokens >>= λ w. Ok (a, w.1) | false ↦ one_of word_of others tokens ]

-- why a clause was given
abbrev pub a_cause : List Token → Read Cause
a_cause tokens = one_of cause_word (cause.Age ∷ cause.False ∷ cause.Weight ∷ []) tokens

-- the mark of a clause
abbrev pub a_truth : List Token → Read Truth
a_truth tokens = one_of truth_word (truth.True ∷ truth.False ∷ truth.Wide ∷ []) tokens

-- how a finder ended
abbrev pub an_end : List Token → Read FinderEnd
an_end tokens = one_of end_word (end.Done ∷ end.Stopped ∷ end.Wide ∷ end.Memory ∷ []) tokens

-- finder and place of a version
abbrev pub a_version_name : List Token → Read VersionName
a_version_name tokens = a_row_number tokens >>= λ f. a_row_number f.1 >>= λ k. Ok (record { finder = f.0; place = k.0 }, k.1)
