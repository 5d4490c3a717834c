-- The rows of a run text at which no limit is passed are answered as they are.
use Rattle.std.proofs.Common.{◌≡◌, ◌∙◌, sym, ap, subst, refl, ℕ, Bool, true, false, ◌&&◌, List, [], ◌∷◌, ◌++◌, Ok, Err}
use Rattle.std.specs.Prelude.{codes, nat_le}
use Rattle.std.specs.List.{list_all}
use Rattle.std.specs.Str.Parse.{digits_value}
use Rattle.sc_term.specs.declared.symbol.Symbol.{Symbol}
use Rattle.sc_input_rules.specs.declared.fault.InputKind.TheVariants.{OutOfRange}
use Rattle.sc_input_rules.specs.declared.token.Token.{Token}
use Rattle.sc_input_rules.specs.declared.token.Token.TheVariants.{Word, Punctuation}
use Rattle.sc_input_rules.specs.declared.token.Sign.TheVariants.{Colon}
use Rattle.sc_input_rules.specs.Token.{same_text}
use Rattle.sc_input_rules.specs.Tokens.{is_digit}
use Rattle.sc_input_rules.specs.Reader.{Read, Name, unexpected, the_sign, the_word, a_word}
use Rattle.sc_input_rules.proofs.Taken.{Gives, both, same, sign_taken, word_taken}
use Rattle.sc_text_rules.specs.ProofGrammar.{text_clause}
use Rattle.sc_text.proofs.TextStanding.{InSentence, sentence_begun, further}
use Rattle.sc_text_run_rules.specs.RowWords.{is_in_range, ranged, a_number_in, a_row_number}
use Rattle.sc_text_run_rules.specs.RowGrammar.{a_kept_row}
use Rattle.sc_text_run_section.specs.Seen.{clipped_kept}
use Rattle.sc_text.proofs.Standing.{ReadsExactly, last_exact}
use Rattle.sc_text.proofs.ExactLines.{is_name, clause_exact}

-- ---- words and numbers

-- a word stands before what is left
record Begins (ts left : List Token) : Type 0 where
  at : ℕ
  text : List ℕ
  tokens : ts ≡ Word at text ∷ left

begins : (ts us left : List Token) (w : Name) → ts ≡ Word w.at w.text ∷ us → us ≡ left → Begins ts left
begins ts us left w e f = record { at = w.at; text = w.text; tokens = e ∙ ap (λ us. Word w.at w.text ∷ us) f }

number_word : (test : ℕ → Bool) (low high : ℕ) (ts : List Token) (n : ℕ) (left : List Token) → Gives (a_number_in test low high ts) n left → Begins ts left
number_word test low high ts n left e =
    let f : Name × List Token → Read ℕ = λ w. elim (list_all is_digit w.0.text && test (digits_value 10 w.0.text)) [ true ↦ ranged low high w.0.text w.1 ts | false ↦ unexpected ts ] in
    let b = both (a_word ts) f n left e in
    let t = word_taken ts b.value b.left b.first in
    by b.value b.left (list_all is_digit b.value.text && test (digits_value 10 b.value.text)) (is_in_range low high b.value.text) t.tokens b.second
  where
    by : (w : Name) (us : List Token) (c d : Bool) → ts ≡ Word w.at w.text ∷ us
        → Gives (elim c [ true ↦ elim d [ true ↦ Ok (digits_value 10 w.text, us) | false ↦ Err (record { left = ts; kind = OutOfRange }) ] | false ↦ unexpected ts ]) n left → Begins ts left
    by w us true true t e = begins ts us left w t (same (digits_value 10 w.text) n us left e).left
    by w us true false t e = absurd cc
    by w us false d t e = absurd cc

-- the word itself
record BeginsWith (name : List ℕ) (ts left : List Token) : Type 0 where
  at : ℕ
  tokens : ts ≡ Word at name ∷ left

the_word_taken : (name : List ℕ) (ts : List Token) (u : Unit {0}) (left : List Token) → Gives (the_word name ts) u left → BeginsWith name ts left
the_word_taken name ts u left e =
    let b = both (a_word ts) (λ w. elim (same_text name w.0.text) [ true ↦ Ok (tt, w.1) | false ↦ unexpected ts ]) u left e in
    let t = word_taken ts b.value b.left b.first in
    by b.value b.left (same_text name b.value.text) refl t.tokens b.second
  where
    by : (w : Name) (us : List Token) (c : Bool) → same_text name w.text ≡ c → ts ≡ Word w.at w.text ∷ us → Gives (elim c [ true ↦ Ok (tt {0}, us) | false ↦ unexpected ts ]) u left → BeginsWith name ts left
    by w us true h t e = record { at = w.at; tokens = t ∙ (λ i. Word w.at (sym (is_name name w.text h) i) ∷ (same (tt {0}) u us left e).left i) }
    by w us false h t e = absurd cc

-- ---- rows

module _ (symbols : List Symbol) where
  pub kept_row_exact : (least : ℕ) → ReadsExactly symbols clipped_kept (a_kept_row symbols least)
  kept_row_exact least ts k left h e =
      let w = both (the_word (codes "kept") ts) _ k left e in
      let begin = the_word_taken (codes "kept") ts w.value w.left w.first in
      let n = both (a_number_in (λ n. nat_le least n) 0 4294967295 w.left) _ k left w.second in
      let number = number_word (λ n. nat_le least n) 0 4294967295 w.left n.value n.left n.first in
      let t = both (a_row_number n.left) _ k left n.second in
      let turn = number_word (λ n. true) 0 4294967295 n.left t.value t.left t.first in
      let g = both (a_row_number t.left) _ k left t.second in
      let weight = number_word (λ n. true) 0 4294967295 t.left g.value g.left g.first in
      let c = both (the_sign Colon g.left) _ k left g.second in
      let colon = sign_taken Colon g.left c.value c.left c.first in
      let f = both (text_clause symbols c.left) _ k left c.second in
      let rest = Word turn.at turn.text ∷ Word weight.at weight.text ∷ [] in
      let front = Word begin.at (codes "kept") ∷ Word number.at number.text ∷ Word turn.at turn.text ∷ Word weight.at weight.text ∷ Punctuation colon.at Colon ∷ [] in
      let tokens : ts ≡ front ++ c.left =
      begin.tokens ∙ ap (λ us. Word begin.at (codes "kept") ∷ us) (number.tokens ∙ ap (λ us. Word number.at number.text ∷ us) (turn.tokens ∙ ap (λ us. Word turn.at turn.text ∷ us)
      (weight.tokens ∙ ap (λ us. Word weight.at weight.text ∷ us) colon.tokens))) in
      let here = further symbols h.whole [] front c.left (refl, (refl, (refl, (refl, (refl, tt))))) (subst (InSentence symbols h.whole []) tokens (sentence_begun symbols h.whole ts h.start)) in
      let r = clause_exact symbols h.whole begin.at (codes "kept") number.at number.text rest colon.at c.left f.value f.left refl (refl, (refl, tt)) here f.first in
      last_exact symbols clipped_kept (record { number = n.value; turn = t.value; weight = g.value; clause = f.value }) k f.left left (λ i. record { number = n.value; turn = t.value; weight = g.value; clause = r.exact i }) r.behind f.second
