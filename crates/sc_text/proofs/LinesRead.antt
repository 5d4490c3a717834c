-- Where no limit is passed, the lines of a proof section that is read are answered as they are.
use Rattle.std.proofs.Common.{◌≡◌, ◌∙◌, sym, ap, subst, refl, Bool, true, false, List, [], ◌∷◌, ◌++◌, map, length, None, Ok}
use Rattle.std.specs.Prelude.{ℕ, zero, suc, ◌+◌, ◌==◌, codes}
use Rattle.std.specs.List.{AllByRecursion}
use Rattle.std.specs.Cmp.Lexicographic.{bytes_decides}
use Rattle.sc_term.specs.declared.Clause.{Clause}
use Rattle.sc_term.specs.declared.Line.{Line}
use Rattle.sc_term.specs.declared.Step.{Step}
use Rattle.sc_term.specs.declared.Step.TheVariants.{Merge, Flip}
use Rattle.sc_term.specs.declared.symbol.Symbol.{Symbol}
use Rattle.sc_input_rules.specs.declared.token.Token.{Token}
use Rattle.sc_input_rules.specs.declared.token.Token.TheVariants.{Word, Punctuation}
use Rattle.sc_input_rules.specs.declared.token.Sign.TheVariants.{Stop, Colon}
use Rattle.sc_input_rules.specs.Token.{same_text}
use Rattle.sc_input_rules.specs.Reader.{◌>>=◌, unexpected, the_sign, the_word, a_word}
use Rattle.sc_input_rules.specs.ClauseGrammar.{clause}
use Rattle.sc_input_rules.specs.Faults.{first_passed}
use Rattle.sc_input_rules.specs.Numbering.{literal_of}
use Rattle.sc_input_rules.specs.ProblemGrammar.{next_is_word}
use Rattle.sc_input_rules.proofs.ClauseSpelling.{clause_tokens}
use Rattle.sc_input_rules.proofs.ClausesRead.{clause_read}
use Rattle.sc_input_rules.proofs.NoStop.{clause_no_stop}
use Rattle.sc_input_rules.proofs.Taken.{Gives, both, same, sign_taken, word_taken}
use Rattle.sc_text_rules.specs.TextWords.{the_number, text_variable}
use Rattle.sc_text_rules.specs.TextLimits.{text_bounds, text_fault_at}
use Rattle.sc_text_rules.specs.TextPosition.{is_table_row}
use Rattle.sc_text_rules.specs.ProofGrammar.{text_clause, input_step, instance_step, resolve_step, of_line_and_literal, para_step, step_named, a_step, a_line, lines_within, the_heading, proof_section, alone}
use Rattle.sc_text_section.specs.Clipped.{clipped_clause, clipped_line}
use Rattle.sc_text.proofs.TextStanding.{AtStart, InSentence, at_first, sentence_begun, sentence_ended, further}
use Rattle.sc_text.proofs.SmallClauses.{HasSmallTerms, clause_small}
use Rattle.sc_text.proofs.InFormulas.{HasNoColon, clause_terms}
use Rattle.sc_text.proofs.Numbers.{InStep, Somewhere, digits_read, no_row}
use Rattle.sc_text.proofs.Steps.{the_word_read, StepRead, input_read, instance_read, resolve_read, two_read, para_read}
use Rattle.sc_text.proofs.Exact.{literals_exact}

-- ---- the step that a word names

is_name : (name known : List ℕ) → same_text name known ≡ true → name ≡ known
is_name name known e = (bytes_decides name known).0 e

-- a word that names another step isn't `instance`
not_instance : (name known : List ℕ) → same_text name known ≡ true → same_text (codes "instance") known ≡ false → same_text (codes "instance") name ≡ false
not_instance name known e other = ap (same_text (codes "instance")) (is_name name known e) ∙ other

module _ (symbols : List Symbol) (whole : List Token) (n : ℕ) (number : List ℕ) (m : ℕ) (row : is_table_row (Word n number ∷ []) ≡ false) where
  abbrev Begun : List ℕ → List Token → Type 0
  Begun name ts = InStep symbols whole n number m name [] ts

  abbrev Done : List ℕ → Step → List Token → Type 0
  Done name step left = StepRead symbols whole n number m name row step left

  begun_within : (name : List ℕ) (ts : List Token) → Begun name ts → Somewhere symbols whole n number m name ts
  begun_within name ts s = record { rest = []; here = s }

  named_read : (name : List ℕ) (ts us : List Token) (step : Step) (left : List Token) → Begun name ts → Gives (step_named symbols name ts us) step left → Done name step left
  named_read name ts us step left s e =
      by (same_text name (codes "input")) (same_text name (codes "instance")) (same_text name (codes "resolve")) (same_text name (codes "merge")) (same_text name (codes "para")) (same_text name (codes "flip"))
      refl refl refl refl refl refl e
    where
      by : (a b c d f g : Bool) → same_text name (codes "input") ≡ a → same_text name (codes "instance") ≡ b → same_text name (codes "resolve") ≡ c → same_text name (codes "merge") ≡ d → same_text name (codes "para") ≡ f
          → same_text name (codes "flip") ≡ g
          → Gives (elim a [
            | true ↦ input_step ts
            | false ↦ elim b [
              | true ↦ instance_step symbols ts
              | false ↦ elim c [
                | true ↦ resolve_step ts
                | false ↦ elim d [
                  | true ↦ of_line_and_literal (λ j a. Merge j a) ts
                  | false ↦ elim f [ true ↦ para_step ts | false ↦ elim g [ true ↦ of_line_and_literal (λ j a. Flip j a) ts | false ↦ unexpected us ] ]
                ]
              ]
            ]
          ]) step left → Done name step left
      by true b c d f g a' b' c' d' f' g' e = input_read symbols whole n number m name row (not_instance name (codes "input") a' refl) ts step left (begun_within name ts s) e
      by false true c d f g a' b' c' d' f' g' e =
          let known = is_name name (codes "instance") b' in
          subst (λ name. Done name step left) (sym known) (instance_read symbols whole n number m row ts step left (subst (λ name. Begun name ts) known s) e)
      by false false true d f g a' b' c' d' f' g' e = resolve_read symbols whole n number m name row (not_instance name (codes "resolve") c' refl) ts step left (begun_within name ts s) e
      by false false false true f g a' b' c' d' f' g' e =
          two_read symbols whole n number m name row (not_instance name (codes "merge") d' refl) (λ j a. Merge j a) (λ j a. refl) ts step left (begun_within name ts s) e
      by false false false false true g a' b' c' d' f' g' e = para_read symbols whole n number m name row (not_instance name (codes "para") f' refl) ts step left (begun_within name ts s) e
      by false false false false false true a' b' c' d' f' g' e =
          two_read symbols whole n number m name row (not_instance name (codes "flip") g' refl) (λ j a. Flip j a) (λ j a. refl) ts step left (begun_within name ts s) e
      by false false false false false false a' b' c' d' f' g' e = absurd cc

-- ---- lines

module _ (symbols : List Symbol) where
  record LineRead (line : Line) (left : List Token) : Type 0 where
    exact : clipped_line line ≡ line
    whole : List Token
    start : AtStart symbols whole left

  record ClauseExact (whole : List Token) (c : Clause) (left : List Token) : Type 0 where
    exact : clipped_clause c ≡ c
    before : List Token
    start : AtStart symbols before left

  clause_exact : (whole : List Token) (n : ℕ) (number : List ℕ) (m : ℕ) (name : List ℕ) (rest : List Token) (at : ℕ) (ts : List Token) (c : Clause) (left : List Token) → is_table_row (Word n number ∷ []) ≡ false → HasNoColon rest
      → InSentence symbols whole ((Word n number ∷ Word m name ∷ rest) ++ Punctuation at Colon ∷ []) ts → Gives (text_clause symbols ts) c left → ClauseExact whole c left
  clause_exact whole n number m name rest at ts c left row colons s e =
      let front = Word n number ∷ Word m name ∷ rest in
      let begun = front ++ Punctuation at Colon ∷ [] in
      let w = both (clause ts) _ c left e in
      let r = clause_read ts w.value w.left w.first in
      let b = both (the_sign Stop w.left) _ c left w.second in
      let stop = sign_taken Stop w.left b.value b.left b.first in
      let z = same (record { literals = map (literal_of text_variable symbols) w.value }) c b.left left b.second in
      let spelt = clause_tokens r.tree in
      let end = Punctuation stop.at Stop in
      let here : InSentence symbols whole (front ++ Punctuation at Colon ∷ []) (clause_tokens r.tree ++ Punctuation stop.at Stop ∷ b.left) =
      subst (InSentence symbols whole begun) (r.tokens ∙ ap (λ us. spelt ++ us) stop.tokens) s in
      let terms = clause_terms symbols whole front spelt at end b.left (clause_no_stop r.tree) (refl, (refl, colons)) (λ zs. row) here in
      let small = subst (AllByRecursion HasSmallTerms) (sym r.written) (clause_small r.tree end r.spelt refl terms) in
      let same_clause = literals_exact symbols w.value small in
      record {
        exact = subst (λ c. clipped_clause c ≡ c) z.value (λ i. record { literals = same_clause i });
        before = (whole ++ (begun ++ spelt)) ++ end ∷ [];
        start = subst (AtStart symbols ((whole ++ (begun ++ spelt)) ++ end ∷ [])) z.left
            (sentence_ended symbols whole (begun ++ spelt) end b.left refl (further symbols whole begun spelt (end ∷ b.left) (clause_no_stop r.tree) here));
      }

  step_read : (whole : List Token) (n : ℕ) (number : List ℕ) (ts : List Token) (step : Step) (left : List Token) (row : is_table_row (Word n number ∷ []) ≡ false) → InSentence symbols whole (Word n number ∷ []) ts
      → Gives (a_step symbols ts) step left → (m : ℕ) × (name : List ℕ) × StepRead symbols whole n number m name row step left
  step_read whole n number ts step left row s e =
      let b = both (a_word ts) _ step left e in
      let t = word_taken ts b.value b.left b.first in
      let word = Word b.value.at b.value.text in
      let begun = further symbols whole (Word n number ∷ []) (word ∷ []) b.left (refl, tt) (subst (InSentence symbols whole (Word n number ∷ [])) t.tokens s) in
      (b.value.at, b.value.text, named_read symbols whole n number b.value.at row b.value.text b.left ts step left (record { sentence = begun; colons = tt }) b.second)

  line_read : (whole ts : List Token) (k : ℕ) (line : Line) (left : List Token) → AtStart symbols whole ts → Gives (a_line symbols k ts) line left → LineRead line left
  line_read whole ts k line left s e =
      let n = both (the_number k ts) _ line left e in
      let d = digits_read (λ m. m == k) ts n.value n.left n.first in
      let row = no_row d.at d.text d.digits in
      let begun = further symbols whole [] (Word d.at d.text ∷ []) n.left (refl, tt) (subst (InSentence symbols whole []) d.tokens (sentence_begun symbols whole ts s)) in
      let step = both (a_step symbols n.left) _ line left n.second in
      let q = step_read whole d.at d.text n.left step.value step.left row begun step.first in
      let behind = q.2.behind in
      let colon = both (the_sign Colon step.left) _ line left step.second in
      let sign = sign_taken Colon step.left colon.value colon.left colon.first in
      let front = Word d.at d.text ∷ Word q.0 q.1 ∷ behind.rest in
      let here = further symbols whole front (Punctuation sign.at Colon ∷ []) colon.left (refl, tt) (subst (InSentence symbols whole front) sign.tokens behind.here.sentence) in
      let c = both (text_clause symbols colon.left) _ line left colon.second in
      let r = clause_exact whole d.at d.text q.0 q.1 behind.rest sign.at colon.left c.value c.left row behind.here.colons here c.first in
      let z = same (record { step = step.value; clause = c.value }) line c.left left c.second in
      record {
        exact = subst (λ line. clipped_line line ≡ line) z.value (λ i. record { step = q.2.exact i; clause = r.exact i });
        whole = r.before;
        start = subst (AtStart symbols r.before) z.left r.start;
      }

  lines_read : (fuel : ℕ) (whole ts : List Token) (k : ℕ) (lines : List Line) (left : List Token) → AtStart symbols whole ts → Gives (lines_within fuel symbols k ts) lines left → map clipped_line lines ≡ lines
  lines_read zero whole ts k lines left s e = absurd cc
  lines_read (suc fuel) whole ts k lines left s e = by (next_is_word (codes "end_of_proof") ts) e (lines_read fuel)
    where
      by : (b : Bool) → Gives (elim b [ true ↦ Ok ([], ts) | false ↦ a_line symbols k ts >>= λ first. lines_within fuel symbols (k + 1) first.1 >>= λ others. Ok (first.0 ∷ others.0, others.1) ]) lines left
          → ((whole ts : List Token) (k : ℕ) (lines : List Line) (left : List Token) → AtStart symbols whole ts → Gives (lines_within fuel symbols k ts) lines left → map clipped_line lines ≡ lines)
          → map clipped_line lines ≡ lines
      by true e ih = subst (λ lines. map clipped_line lines ≡ lines) (same [] lines ts left e).value refl
      by false e ih =
          let first = both (a_line symbols k ts) _ lines left e in
          let r = line_read whole ts k first.value first.left s first.first in
          let others = both (lines_within fuel symbols (k + 1) first.left) _ lines left first.second in
          let z = same (first.value ∷ others.value) lines others.left left others.second in
          let rest = ih r.whole first.left (k + 1) others.value others.left r.start others.first in
          subst (λ lines. map clipped_line lines ≡ lines) z.value (λ i. r.exact i ∷ rest i)

  heading_read : (name : List ℕ) (ts : List Token) (u : Unit {0}) (left : List Token) → AtStart symbols [] ts → Gives (the_heading name ts) u left → (whole : List Token) × AtStart symbols whole left
  heading_read name ts u left s e =
      let w = both (the_word name ts) _ u left e in
      let t = the_word_read name ts w.value w.left w.first in
      let stop = sign_taken Stop w.left u left w.second in
      let word = Word t.at t.text in
      let end = Punctuation stop.at Stop in
      let here = subst (InSentence symbols [] []) (t.tokens ∙ ap (λ us. word ∷ us) stop.tokens) (sentence_begun symbols [] ts s) in
      ((word ∷ []) ++ end ∷ [], sentence_ended symbols [] (word ∷ []) end left refl (further symbols [] [] (word ∷ []) (end ∷ left) (refl, tt) here))

  section_read : (ts : List Token) (lines : List Line) (left : List Token) → AtStart symbols [] ts → Gives (proof_section symbols ts) lines left → map clipped_line lines ≡ lines
  section_read ts lines left s e =
      let begin = both (the_heading (codes "proof") ts) _ lines left e in
      let h = heading_read (codes "proof") ts begin.value begin.left s begin.first in
      let inner = both (lines_within (length begin.left) symbols 1 begin.left) _ lines left begin.second in
      let r = lines_read (length begin.left) h.0 begin.left 1 inner.value inner.left h.1 inner.first in
      let end = both (the_heading (codes "end_of_proof") inner.left) _ lines left inner.second in
      subst (λ lines. map clipped_line lines ≡ lines) (same inner.value lines end.left left end.second).value r

  -- a section alone, of tokens at which no limit is passed
  pub section_exact : (ts : List Token) (lines : List Line) (left : List Token) → first_passed (text_fault_at text_bounds symbols) ts ≡ None → Gives (alone (proof_section symbols ts)) lines left → map clipped_line lines ≡ lines
  section_exact ts lines left none e =
      let b = both (proof_section symbols ts) (λ r. elim r.1 [ [] ↦ Ok r | t ∷ tokens ↦ unexpected (t ∷ tokens) ]) lines left e in
      subst (λ lines. map clipped_line lines ≡ lines) (by (b.value, b.left) b.left b.second) (section_read ts b.value b.left (at_first symbols ts none) b.first)
    where
      by : (found : List Line × List Token) (us : List Token) → Gives (elim us [ [] ↦ Ok found | t ∷ tokens ↦ unexpected (t ∷ tokens) ]) lines left → found.0 ≡ lines
      by found [] e = (same found.0 lines found.1 left e).value
      by found (t ∷ us) e = absurd cc
