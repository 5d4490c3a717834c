-- Clauses and the lines of a proof within a text at which no limit is passed are answered as they are.
use Rattle.std.proofs.Common.{◌≡◌, ◌∙◌, sym, ap, subst, refl, ℕ, zero, suc, ◌+◌, Bool, true, false, List, [], ◌∷◌, ◌++◌, map, length, Ok}
use Rattle.std.specs.Prelude.{◌==◌, codes}
use Rattle.std.specs.List.{AllByRecursion}
use Rattle.std.specs.Cmp.Lexicographic.{bytes_decides}
use Rattle.sc_term.specs.declared.Clause.{Clause}
use Rattle.sc_term.specs.declared.Step.{Step}
use Rattle.sc_term.specs.declared.Step.TheVariants.{Merge, Flip}
use Rattle.sc_term.specs.declared.symbol.Symbol.{Symbol}
use Rattle.sc_input_rules.specs.declared.token.Token.{Token}
use Rattle.sc_input_rules.specs.declared.token.Token.TheVariants.{Word, Punctuation}
use Rattle.sc_input_rules.specs.declared.token.Sign.TheVariants.{Stop, Colon}
use Rattle.sc_input_rules.specs.Token.{same_text}
use Rattle.sc_input_rules.specs.Reader.{◌>>=◌, unexpected, the_sign, a_word}
use Rattle.sc_input_rules.specs.ClauseGrammar.{clause}
use Rattle.sc_input_rules.specs.Numbering.{literal_of}
use Rattle.sc_input_rules.specs.ProblemGrammar.{next_is_word}
use Rattle.sc_input_rules.proofs.ClauseSpelling.{clause_tokens}
use Rattle.sc_input_rules.proofs.ClausesRead.{clause_read}
use Rattle.sc_input_rules.proofs.NoStop.{clause_no_stop}
use Rattle.sc_input_rules.proofs.Taken.{Gives, both, sign_taken, word_taken}
use Rattle.sc_text_rules.specs.TextWords.{the_number, text_variable}
use Rattle.sc_text_rules.specs.TextPosition.{is_table_row}
use Rattle.sc_text_rules.specs.ProofGrammar.{text_clause, input_step, instance_step, resolve_step, of_line_and_literal, para_step, step_named, a_step, a_line, lines_within, the_heading, proof_section}
use Rattle.sc_text_section.specs.Clipped.{clipped_clause, clipped_line}
use Rattle.sc_text.proofs.TextStanding.{InSentence, sentence_begun, sentence_ended, further}
use Rattle.sc_text.proofs.SmallClauses.{HasSmallTerms, clause_small}
use Rattle.sc_text.proofs.InFormulas.{HasNoColon, clause_terms}
use Rattle.sc_text.proofs.Numbers.{InStep, Somewhere, digits_read, no_row}
use Rattle.sc_text.proofs.Steps.{StepRead, input_read, instance_read, resolve_read, two_read, para_read}
use Rattle.sc_text.proofs.Exact.{literals_exact}
use Rattle.sc_text_run_section.proofs.RowsSpelt.{heading_sentence}
use Rattle.sc_text.proofs.Standing.{IsExact, ReadsExactly, sentences_pass, first_exact, last_exact}

-- ---- the step that a word names

pub is_name : (name known : List ℕ) → same_text name known ≡ true → name ≡ known
is_name name known e = (bytes_decides name known).0 e

-- a word that names another step isn't `instance`
not_instance : (name known : List ℕ) → same_text name known ≡ true → same_text (codes "instance") known ≡ false → same_text (codes "instance") name ≡ false
not_instance name known e other = ap (same_text (codes "instance")) (is_name name known e) ∙ other

module _ (symbols : List Symbol) (whole : List Token) (n : ℕ) (number : List ℕ) (m : ℕ) (row : is_table_row (Word n number ∷ []) ≡ false) where
  abbrev Begun : List ℕ → List Token → Type 0
  Begun name ts = InStep symbols whole n number m name [] ts

  abbrev Done : List ℕ → Step → List Token → Type 0
  Done name step left = StepRead symbols whole n number m name row step left

  begun_within : (name : List ℕ) (ts : List Token) → Begun name ts → Somewhere symbols whole n number m name ts
  begun_within name ts s = record { rest = []; here = s }

  named_read : (name : List ℕ) (ts us : List Token) (step : Step) (left : List Token) → Begun name ts → Gives (step_named symbols name ts us) step left → Done name step left
  named_read name ts us step left s e =
      by (same_text name (codes "input")) (same_text name (codes "instance")) (same_text name (codes "resolve")) (same_text name (codes "merge")) (same_text name (codes "para")) (same_text name (codes "flip"))
      refl refl refl refl refl refl e
    where
      by : (a b c d f g : Bool) → same_text name (codes "input") ≡ a → same_text name (codes "instance") ≡ b → same_text name (codes "resolve") ≡ c → same_text name (codes "merge") ≡ d → same_text name (codes "para") ≡ f
          → same_text name (codes "flip") ≡ g
          → Gives (elim a [
            | true ↦ input_step ts
            | false ↦ elim b [
              | true ↦ instance_step symbols ts
              | false ↦ elim c [
                | true ↦ resolve_step ts
                | false ↦ elim d [
                  | true ↦ of_line_and_literal (λ j a. Merge j a) ts
                  | false ↦ elim f [ true ↦ para_step ts | false ↦ elim g [ true ↦ of_line_and_literal (λ j a. Flip j a) ts | false ↦ unexpected us ] ]
                ]
              ]
            ]
          ]) step left → Done name step left
      by true b c d f g a' b' c' d' f' g' e = input_read symbols whole n number m name row (not_instance name (codes "input") a' refl) ts step left (begun_within name ts s) e
      by false true c d f g a' b' c' d' f' g' e =
          let known = is_name name (codes "instance") b' in
          subst (λ name. Done name step left) (sym known) (instance_read symbols whole n number m row ts step left (subst (λ name. Begun name ts) known s) e)
      by false false true d f g a' b' c' d' f' g' e = resolve_read symbols whole n number m name row (not_instance name (codes "resolve") c' refl) ts step left (begun_within name ts s) e
      by false false false true f g a' b' c' d' f' g' e =
          two_read symbols whole n number m name row (not_instance name (codes "merge") d' refl) (λ j a. Merge j a) (λ j a. refl) ts step left (begun_within name ts s) e
      by false false false false true g a' b' c' d' f' g' e = para_read symbols whole n number m name row (not_instance name (codes "para") f' refl) ts step left (begun_within name ts s) e
      by false false false false false true a' b' c' d' f' g' e =
          two_read symbols whole n number m name row (not_instance name (codes "flip") g' refl) (λ j a. Flip j a) (λ j a. refl) ts step left (begun_within name ts s) e
      by false false false false false false a' b' c' d' f' g' e = absurd cc

-- ---- clauses and lines

module _ (symbols : List Symbol) where
  -- the clause of a sentence, behind the first colon, before which stand two words and more
  pub clause_exact : (whole : List Token) (n : ℕ) (number : List ℕ) (m : ℕ) (name : List ℕ) (rest : List Token) (at : ℕ) (ts : List Token) (c : Clause) (left : List Token) → is_table_row (Word n number ∷ []) ≡ false → HasNoColon rest
      → InSentence symbols whole ((Word n number ∷ Word m name ∷ rest) ++ Punctuation at Colon ∷ []) ts → Gives (text_clause symbols ts) c left → IsExact symbols clipped_clause c left
  clause_exact whole n number m name rest at ts c left row colons s e =
      let front = Word n number ∷ Word m name ∷ rest in
      let begun = front ++ Punctuation at Colon ∷ [] in
      let w = both (clause ts) _ c left e in
      let r = clause_read ts w.value w.left w.first in
      let b = both (the_sign Stop w.left) _ c left w.second in
      let stop = sign_taken Stop w.left b.value b.left b.first in
      let spelt = clause_tokens r.tree in
      let end = Punctuation stop.at Stop in
      let here : InSentence symbols whole (front ++ Punctuation at Colon ∷ []) (clause_tokens r.tree ++ Punctuation stop.at Stop ∷ b.left) =
      subst (InSentence symbols whole begun) (r.tokens ∙ ap (λ us. spelt ++ us) stop.tokens) s in
      let terms = clause_terms symbols whole front spelt at end b.left (clause_no_stop r.tree) (refl, (refl, colons)) (λ zs. row) here in
      let small = subst (AllByRecursion HasSmallTerms) (sym r.written) (clause_small r.tree end r.spelt refl terms) in
      let same_clause = literals_exact symbols w.value small in
      let ended = sentence_ended symbols whole (begun ++ spelt) end b.left refl (further symbols whole begun spelt (end ∷ b.left) (clause_no_stop r.tree) here) in
      last_exact symbols clipped_clause (record { literals = map (literal_of text_variable symbols) w.value }) c b.left left (λ i. record { literals = same_clause i }) (record { whole = _; start = ended }) b.second

  step_read : (whole : List Token) (n : ℕ) (number : List ℕ) (ts : List Token) (step : Step) (left : List Token) (row : is_table_row (Word n number ∷ []) ≡ false) → InSentence symbols whole (Word n number ∷ []) ts
      → Gives (a_step symbols ts) step left → (m : ℕ) × (name : List ℕ) × StepRead symbols whole n number m name row step left
  step_read whole n number ts step left row s e =
      let b = both (a_word ts) _ step left e in
      let t = word_taken ts b.value b.left b.first in
      let word = Word b.value.at b.value.text in
      let begun = further symbols whole (Word n number ∷ []) (word ∷ []) b.left (refl, tt) (subst (InSentence symbols whole (Word n number ∷ [])) t.tokens s) in
      (b.value.at, b.value.text, named_read symbols whole n number b.value.at row b.value.text b.left ts step left (record { sentence = begun; colons = tt }) b.second)

  line_exact : (k : ℕ) → ReadsExactly symbols clipped_line (a_line symbols k)
  line_exact k ts line left h e =
      let n = both (the_number k ts) _ line left e in
      let d = digits_read (λ m. m == k) ts n.value n.left n.first in
      let row = no_row d.at d.text d.digits in
      let begun = further symbols h.whole [] (Word d.at d.text ∷ []) n.left (refl, tt) (subst (InSentence symbols h.whole []) d.tokens (sentence_begun symbols h.whole ts h.start)) in
      let step = both (a_step symbols n.left) _ line left n.second in
      let q = step_read h.whole d.at d.text n.left step.value step.left row begun step.first in
      let behind = q.2.behind in
      let colon = both (the_sign Colon step.left) _ line left step.second in
      let sign = sign_taken Colon step.left colon.value colon.left colon.first in
      let front = Word d.at d.text ∷ Word q.0 q.1 ∷ behind.rest in
      let here = further symbols h.whole front (Punctuation sign.at Colon ∷ []) colon.left (refl, tt) (subst (InSentence symbols h.whole front) sign.tokens behind.here.sentence) in
      let c = both (text_clause symbols colon.left) _ line left colon.second in
      let r = clause_exact h.whole d.at d.text q.0 q.1 behind.rest sign.at colon.left c.value c.left row behind.here.colons here c.first in
      last_exact symbols clipped_line (record { step = step.value; clause = c.value }) line c.left left (λ i. record { step = q.2.exact i; clause = r.exact i }) r.behind c.second

  lines_exact : (n k : ℕ) → ReadsExactly symbols (map clipped_line) (lines_within n symbols k)
  lines_exact zero k ts lines left s e = absurd cc
  lines_exact (suc n) k ts lines left s e = by (next_is_word (codes "end_of_proof") ts) (lines_exact n (k + 1)) e
    where
      by : (b : Bool) → ReadsExactly symbols (map clipped_line) (lines_within n symbols (k + 1))
          → Gives (elim b [ true ↦ Ok ([], ts) | false ↦ a_line symbols k ts >>= λ first. lines_within n symbols (k + 1) first.1 >>= λ others. Ok (first.0 ∷ others.0, others.1) ]) lines left → IsExact symbols (map clipped_line) lines left
      by true ih e = last_exact symbols (map clipped_line) [] lines ts left refl s e
      by false ih e =
          first_exact symbols clipped_line (map clipped_line) (a_line symbols k) (λ first. lines_within n symbols (k + 1) first.1 >>= λ others. Ok (first.0 ∷ others.0, others.1)) ts lines left (line_exact k) (λ line us x s e.
          first_exact symbols (map clipped_line) (map clipped_line) (lines_within n symbols (k + 1)) (λ others. Ok (line ∷ others.0, others.1)) us lines left ih (λ others vs xs s e.
          last_exact symbols (map clipped_line) (line ∷ others) lines vs left (λ i. x i ∷ xs i) s e) s e) s e

  pub section_exact : ReadsExactly symbols (map clipped_line) (proof_section symbols)
  section_exact ts lines left s e =
      first_exact symbols (λ u. u) (map clipped_line) (the_heading (codes "proof")) (λ begin. lines_within (length begin.1) symbols 1 begin.1 >>= λ ls. the_heading (codes "end_of_proof") ls.1 >>= λ end. Ok (ls.0, end.1)) ts lines left
      (sentences_pass symbols (the_heading (codes "proof")) (heading_sentence (codes "proof"))) (λ u us y s e.
      first_exact symbols (map clipped_line) (map clipped_line) (lines_within (length us) symbols 1) (λ ls. the_heading (codes "end_of_proof") ls.1 >>= λ end. Ok (ls.0, end.1)) us lines left (lines_exact (length us) 1) (λ ls vs x s e.
      first_exact symbols (λ u. u) (map clipped_line) (the_heading (codes "end_of_proof")) (λ end. Ok (ls, end.1)) vs lines left
      (sentences_pass symbols (the_heading (codes "end_of_proof")) (heading_sentence (codes "end_of_proof"))) (λ u ws y s e. last_exact symbols (map clipped_line) ls lines ws left x s e) s e) s e) s e
