-- A proof section within a text is read back.
use Rattle.std.proofs.Common.{◌≡◌, ◌∙◌, sym, ap, subst, refl, ℕ, ◌<◌, ◌^◌, Bool, false, true, List, [], ◌∷◌, ◌++◌, length, append_assoc, Some, Ok, ◌||◌, arith}
use Rattle.std.specs.Prelude.{◌==◌, ◌&&◌, codes, decimal, flat_map}
use Rattle.std.specs.List.{AllByRecursion, list_all}
use Rattle.std.proofs.lemmas.Bool.{eqb-true}
use Rattle.std.proofs.lemmas.List.{append-nil, length-append}
use Rattle.sc_term.proofs.SubstitutionLaws.{all_join}
use Rattle.sc_term.specs.declared.Line.{Line}
use Rattle.sc_term.specs.declared.symbol.Symbol.{Symbol}
use Rattle.sc_input_rules.specs.declared.token.Token.{Token}
use Rattle.sc_input_rules.specs.declared.token.Token.TheVariants.{Word, Punctuation}
use Rattle.sc_input_rules.specs.declared.token.Sign.TheVariants.{Stop, Colon}
use Rattle.sc_input_rules.specs.Token.{is_sign, same_text}
use Rattle.sc_input_rules.specs.Tokens.{is_digit}
use Rattle.sc_input_rules.specs.Reader.{◌>>=◌}
use Rattle.sc_input_rules.proofs.Booleans.{parts_hold}
use Rattle.sc_input_rules.proofs.ClauseSpelling.{clause_tokens}
use Rattle.sc_input_rules.proofs.NoStop.{clause_no_stop}
use Rattle.sc_input_rules.proofs.Taken.{Gives}
use Rattle.sc_text_rules.specs.ProofText.{lines_text, proof_text}
use Rattle.sc_text_rules.specs.ProofGrammar.{lines_within, the_heading, proof_section}
use Rattle.sc_text_rules.specs.TextPosition.{is_table_row, formula}
use Rattle.sc_text_run_rules.specs.ModelText.{row}
use Rattle.sc_text_laws.specs.Printable.{AreNamed, IsPrintableLine}
use Rattle.sc_text_laws.proofs.Walks.{Walk, walk_join, walk_move}
use Rattle.sc_text_laws.proofs.WordRows.{fits}
use Rattle.sc_text_laws.proofs.NumberTexts.{all_digits}
use Rattle.sc_text_laws.proofs.Passing.{Passes, passes_by}
use Rattle.sc_text_laws.proofs.StepSpelling.{step_tokens, quiet}
use Rattle.sc_text_laws.proofs.StepClear.{step_passes, number_passes, step_no_colon, step_no_stop}
use Rattle.sc_text_laws.proofs.LineSpelling.{LineTree, line_tokens, IsClearLine}
use Rattle.sc_text_laws.proofs.ProofSpelling.{lines_spelt}
use Rattle.sc_text_laws.proofs.Sentences.{EndsSentence, Sentences, HasNoStop, no_sentence, one_sentence, then_sentences}
use Rattle.sc_text_laws.proofs.Parts.{Part, Anything, then_part, made_part, same_text_part}
use Rattle.sc_text_laws.proofs.RowsPass.{formula_clause}
use Rattle.sc_text_laws.proofs.PlainRows.{plain_row}
use Rattle.sc_text_laws.proofs.KeptRows.{Clear, IsClearClause, clause_walk}

-- a number isn't the word of a table
digits_differ : (b : ℕ) (bs ds : List ℕ) → is_digit b ≡ false → list_all is_digit ds ≡ true → same_text (b ∷ bs) ds ≡ false
digits_differ b bs [] no_digit e = refl
digits_differ b bs (d ∷ ds) no_digit e = by (b == d) refl
  where
    by : (c : Bool) → (b == d) ≡ c → (c && same_text bs ds) ≡ false
    by true h =
        let p = parts_hold (is_digit d) (list_all is_digit ds) e in
        let is : is_digit b ≡ is_digit d = ap is_digit (eqb-true b d h) in
        absurd cc
    by false h = refl

number_no_table : (at : ℕ) (w : List ℕ) → list_all is_digit w ≡ true → is_table_row (Word at w ∷ []) ≡ false
number_no_table at w digits =
    let f = digits_differ 102 (codes "unction") w refl digits in
    let p = digits_differ 112 (codes "redicate") w refl digits in
    (λ i. f i || p i)

module _ (symbols : List Symbol) where
  -- ---- a line

  line_walk : (l : LineTree) → IsClearLine symbols l → Walk (Passes symbols) [] (line_tokens l)
  line_walk l h =
      let w = decimal l.number in
      let digits = all_digits l.number (fits l.number h.number) in
      let table = number_no_table l.at w digits in
      let number = Word l.at w in
      let steps = step_tokens l.step in
      let colon = Punctuation l.colon Colon in
      let base = number ∷ (steps ++ colon ∷ []) in
      let all = clause_tokens l.clause ++ Punctuation l.stop Stop ∷ [] in
      let bars = step_no_colon l.step in
      let s = step_passes symbols l.at w digits l.step h.step in
      let clear : IsClearClause symbols l.clause = record { known = h.known; spelt = h.spelt; light = h.light; shallow = h.shallow } in
      let clause = walk_move (Clear symbols) (Passes symbols) base [] all (λ us t k.
      passes_by symbols (base ++ us) t (Some (record { is_term = false; tokens = us })) (Some (record { is_term = false; tokens = us ++ t ∷ [] }))
      (ap (λ (ts : List Token). formula (number ∷ ts)) (append_assoc steps (colon ∷ []) us) ∙ formula_clause l.at w table steps l.colon us bars)
      (ap (λ (ts : List Token). formula (number ∷ ts)) (append_assoc (steps ++ colon ∷ []) us (t ∷ []) ∙ append_assoc steps (colon ∷ []) (us ++ t ∷ [])) ∙ formula_clause l.at w table steps l.colon (us ++ t ∷ []) bars)
      k.0 k.1) (clause_walk symbols l.clause l.stop clear) in (
        number_passes symbols l.at w digits (quiet l.number h.number),
        walk_join (Passes symbols) (number ∷ []) steps (colon ∷ all) s.walk (s.end l.colon, subst (λ (ts : List Token). Walk (Passes symbols) ts all) (append-nil base) clause),
      )

  -- a line is a sentence
  abbrev before_stop : LineTree → List Token
  before_stop l = Word l.at (decimal l.number) ∷ (step_tokens l.step ++ (Punctuation l.colon Colon ∷ clause_tokens l.clause))

  line_is : (l : LineTree) → line_tokens l ≡ before_stop l ++ Punctuation l.stop Stop ∷ []
  line_is l = ap (λ (ts : List Token). Word l.at (decimal l.number) ∷ ts) (sym (append_assoc (step_tokens l.step) (Punctuation l.colon Colon ∷ clause_tokens l.clause) (Punctuation l.stop Stop ∷ [])))

  line_no_stop : (l : LineTree) → HasNoStop (before_stop l)
  line_no_stop l = (refl, all_join (λ t. is_sign Stop t ≡ false) (step_tokens l.step) (Punctuation l.colon Colon ∷ clause_tokens l.clause) (step_no_stop l.step) (refl, clause_no_stop l.clause))

  line_sentence : (front : List Token) (l : LineTree) → IsClearLine symbols l → EndsSentence front → Sentences symbols front (line_tokens l)
  line_sentence front l h s =
      subst (Sentences symbols front) (sym (line_is l)) (one_sentence symbols front (before_stop l) l.stop s (line_no_stop l) (subst (Walk (Passes symbols) []) (line_is l) (line_walk l h)))

  lines_sentences : (front : List Token) (ls : List LineTree) → AllByRecursion (IsClearLine symbols) ls → EndsSentence front → Sentences symbols front (flat_map line_tokens ls)
  lines_sentences front [] h s = no_sentence symbols front s
  lines_sentences front (l ∷ ls) h s =
      let one = line_sentence front l h.0 s in
      then_sentences symbols front (line_tokens l) (flat_map line_tokens ls) one (lines_sentences (front ++ line_tokens l) ls h.1 one.ends)

  -- ---- the lines, before the closing word

  abbrev Closing : List Token → Type 0
  Closing left = (end : ℕ) × (more : List Token) × (left ≡ Word end (codes "end_of_proof") ∷ more)

  lines_part : AreNamed symbols → (lines : List Line) (at : ℕ) (rest : List ℕ) → length lines < 2 ^ 32 → AllByRecursion (IsPrintableLine symbols) lines
      → Part symbols Closing (λ ts. lines_within (length ts) symbols 1 ts) lines (lines_text symbols 1 lines) at rest
  lines_part h lines at rest few each =
      let m = lines_spelt symbols h 1 lines at rest (omega (arith, few)) each in
      let tokens = flat_map line_tokens m.trees in
      record {
        tokens = flat_map line_tokens m.trees;
        next = m.next;
        spelt = m.tokens;
        read = λ left closing.
            let end = closing.0 in
            let whole = Word end (codes "end_of_proof") ∷ closing.1 in
            let sum = length-append tokens whole in
            let le = m.many in
            subst (λ (us : List Token). Gives (lines_within (length (flat_map line_tokens m.trees ++ us)) symbols 1 (flat_map line_tokens m.trees ++ us)) lines us) (sym closing.2)
            (m.read (length (tokens ++ whole)) end closing.1 (omega (arith, sum, le)));
        passes = λ front s. lines_sentences front m.trees m.clear s;
      }

  -- ---- the section

  pub section_part : AreNamed symbols → (lines : List Line) (at : ℕ) (rest : List ℕ) → length lines < 2 ^ 32 → AllByRecursion (IsPrintableLine symbols) lines
      → Part symbols Anything (proof_section symbols) lines (proof_text symbols lines) at rest
  section_part h lines at rest few each =
      let begin = row (codes "proof" ∷ []) in
      let inner = lines_text symbols 1 lines in
      let last = row (codes "end_of_proof" ∷ []) in
      let head = plain_row symbols (the_heading (codes "proof")) tt (codes "proof") [] at ((inner ++ last) ++ rest) (record { names = (refl, tt); quiet = (refl, tt); table = λ at. refl; step = tt }) (λ left. refl) in
      let body = lines_part h lines head.part.next (last ++ rest) few each in
      let foot = plain_row symbols (the_heading (codes "end_of_proof")) tt (codes "end_of_proof") [] body.next rest (record { names = (refl, tt); quiet = (refl, tt); table = λ at. refl; step = tt }) (λ left. refl) in
      let end = made_part symbols Anything (λ u. lines) (the_heading (codes "end_of_proof")) tt last body.next rest foot.part in
      let both = then_part symbols Closing Anything (λ ts. lines_within (length ts) symbols 1 ts) (λ ls. the_heading (codes "end_of_proof") ls.1 >>= λ end. Ok (ls.0, end.1)) lines lines inner last head.part.next rest body end
      (λ left m. (foot.first, foot.tail ++ left, ap (λ (us : List Token). us ++ left) foot.begins)) in
      same_text_part symbols Anything (proof_section symbols) lines (begin ++ (inner ++ last)) (proof_text symbols lines) at rest (sym (append_assoc begin inner last))
      (then_part symbols Anything Anything (the_heading (codes "proof")) (λ b. lines_within (length b.1) symbols 1 b.1 >>= λ ls. the_heading (codes "end_of_proof") ls.1 >>= λ end. Ok (ls.0, end.1)) tt lines begin (inner ++ last) at rest head.part both (λ left m. tt))
