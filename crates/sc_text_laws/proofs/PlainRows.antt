-- Rows of words and numbers are read back.
use Rattle.std.proofs.Common.{◌≡◌, ◌∙◌, sym, ap, refl, ℕ, ◌+◌, false, List, [], ◌∷◌, ◌++◌, append_assoc, map}
use Rattle.std.specs.Prelude.{codes, decimal}
use Rattle.std.specs.List.{AllByRecursion}
use Rattle.sc_term.proofs.SubstitutionLaws.{all_join}
use Rattle.sc_term.specs.declared.symbol.Symbol.{Symbol}
use Rattle.sc_input_rules.specs.declared.token.Token.{Token}
use Rattle.sc_input_rules.specs.declared.token.Token.TheVariants.{Word, Punctuation}
use Rattle.sc_input_rules.specs.declared.token.Sign.TheVariants.{Stop}
use Rattle.sc_input_rules.specs.Token.{same_text}
use Rattle.sc_input_rules.specs.Reader.{Read}
use Rattle.sc_input_rules.proofs.Taken.{Gives}
use Rattle.sc_text_rules.specs.ProofText.{words}
use Rattle.sc_text_rules.specs.TextPosition.{is_table_row}
use Rattle.sc_text_run_rules.specs.ModelText.{row}
use Rattle.sc_text_laws.specs.Printable.{AreShort}
use Rattle.sc_text_laws.proofs.WordTokens.{tokens_at, past, stop_token, line_feed_token}
use Rattle.sc_text_laws.proofs.WordRows.{AreWords, word_tokens, words_end, words_spelt, fits}
use Rattle.sc_text_laws.proofs.NumberTexts.{number_is_name}
use Rattle.sc_text_laws.proofs.StepSpelling.{QuietWord, quiet}
use Rattle.sc_text_laws.proofs.Sentences.{EndsSentence, Sentences, one_sentence}
use Rattle.sc_text_laws.proofs.Parts.{Row}
use Rattle.sc_text_laws.proofs.RowsPass.{quiet_words, quiet_stop, words_no_stop, IsNoStep, first_passes, quiet_passes}

-- the word behind the first isn't `instance`
abbrev pub IsNoStepWord : List (List ℕ) → Type 0
IsNoStepWord [] = Unit {0}
IsNoStepWord (w ∷ ws) = same_text (codes "instance") w ≡ false

-- words that may stand in a row of no table and no line
pub record IsPlainRow (w : List ℕ) (ws : List (List ℕ)) : Type 0 where
  pub names : AreWords (w ∷ ws)
  pub quiet : AllByRecursion QuietWord (w ∷ ws)
  pub table : (at : ℕ) → is_table_row (Word at w ∷ []) ≡ false
  pub step : IsNoStepWord ws

pub numbers_named : (ns : List ℕ) → AreShort ns → AreWords (map decimal ns)
numbers_named [] h = tt
numbers_named (n ∷ ns) h = (number_is_name n (fits n h.0), numbers_named ns h.1)

pub numbers_quiet : (ns : List ℕ) → AreShort ns → AllByRecursion QuietWord (map decimal ns)
numbers_quiet [] h = tt
numbers_quiet (n ∷ ns) h = (quiet n h.0, numbers_quiet ns h.1)

-- words of a row with its full stop, and the end of the line
pub row_spelt : (at : ℕ) (w : List ℕ) (ws : List (List ℕ)) (rest : List ℕ) → AreWords (w ∷ ws)
    → tokens_at at (row (w ∷ ws) ++ rest) ≡ (word_tokens at (w ∷ ws) ++ Punctuation (words_end at (w ∷ ws)) Stop ∷ []) ++ tokens_at (words_end at (w ∷ ws) + 1 + 1) rest
row_spelt at w ws rest h =
    let e = words_end at (w ∷ ws) in
    let front = word_tokens at (w ∷ ws) in
    ap (tokens_at at) (append_assoc (words (w ∷ ws)) (codes ".\n") rest)
    ∙ words_spelt at w ws (46 ∷ 10 ∷ rest) h refl
    ∙ ap (λ (us : List Token). front ++ us) (stop_token e (10 ∷ rest) ∙ ap (λ (us : List Token). Punctuation e Stop ∷ us) (line_feed_token (e + 1) rest))
    ∙ sym (append_assoc front (Punctuation e Stop ∷ []) (tokens_at (e + 1 + 1) rest))

module _ (symbols : List Symbol) where
  row_passes : (at : ℕ) (w : List ℕ) (ws : List (List ℕ)) (front : List Token) → IsPlainRow w ws → EndsSentence front
      → Sentences symbols front (word_tokens at (w ∷ ws) ++ Punctuation (words_end at (w ∷ ws)) Stop ∷ [])
  row_passes at w ws front h s =
      let e = words_end at (w ∷ ws) in
      let behind = word_tokens (past w at + 1) ws in
      one_sentence symbols front (word_tokens at (w ∷ ws)) e s (words_no_stop at (w ∷ ws)) (
        first_passes symbols at w (h.table at) h.quiet.0,
        quiet_passes symbols at w (h.table at) (behind ++ Punctuation e Stop ∷ [])
            (all_join _ behind (Punctuation e Stop ∷ []) (quiet_words (past w at + 1) ws h.quiet.1) (quiet_stop e, tt)) (by (past w at + 1) ws (Punctuation e Stop ∷ []) refl h.step),
      )
    where
      by : (at : ℕ) (ws : List (List ℕ)) (more : List Token) → IsNoStep more → IsNoStepWord ws → IsNoStep (word_tokens at ws ++ more)
      by at [] more k h = k
      by at (w ∷ ws) more k h = h

  -- a row that the production reads so is read back
  pub plain_row : {A : Type 0} (p : List Token → Read A) (v : A) (w : List ℕ) (ws : List (List ℕ)) (at : ℕ) (rest : List ℕ) → IsPlainRow w ws
      → ((left : List Token) → Gives (p (word_tokens at (w ∷ ws) ++ Punctuation (words_end at (w ∷ ws)) Stop ∷ left)) v left) → Row symbols w p v (row (w ∷ ws)) at rest
  plain_row p v w ws at rest h read =
      let e = words_end at (w ∷ ws) in
      record {
        part = record {
          tokens = word_tokens at (w ∷ ws) ++ Punctuation e Stop ∷ [];
          next = e + 1 + 1;
          spelt = row_spelt at w ws rest h.names;
          read = λ left m. ap p (append_assoc (word_tokens at (w ∷ ws)) (Punctuation e Stop ∷ []) left) ∙ read left;
          passes = λ front s. row_passes at w ws front h s;
        };
        first = at;
        tail = word_tokens (past w at + 1) ws ++ Punctuation e Stop ∷ [];
        begins = refl;
      }
