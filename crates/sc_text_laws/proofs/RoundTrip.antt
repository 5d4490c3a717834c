-- A printed proof section is read back: to the same lines, with no limit passed.
use Rattle.std.proofs.Common.{◌≡◌, ◌∙◌, sym, ap, subst, refl, ℕ, ◌-◌, Bool, false, List, [], ◌∷◌, ◌++◌, take, length, append_assoc, Option, Some, None, Result, Ok, Err, arith}
use Rattle.std.specs.Prelude.{codes, decimal, flat_map, option_and_then, if◌then◌else◌}
use Rattle.std.specs.List.{AllByRecursion}
use Rattle.std.proofs.lemmas.List.{append-nil}
use Rattle.std.proofs.Math.Seq.{take-length, drop-append_seam}
use Rattle.sc_term.proofs.SubstitutionLaws.{all_split, all_join}
use Rattle.sc_term.specs.declared.Line.{Line}
use Rattle.sc_term.specs.declared.symbol.Symbol.{Symbol}
use Rattle.sc_input_rules.specs.declared.fault.Place.{Place}
use Rattle.sc_input_rules.specs.declared.token.Token.{Token}
use Rattle.sc_input_rules.specs.declared.token.Token.TheVariants.{Word, Punctuation}
use Rattle.sc_input_rules.specs.declared.token.Sign.TheVariants.{Stop, Colon}
use Rattle.sc_input_rules.specs.Token.{is_sign}
use Rattle.sc_input_rules.specs.Faults.{first_passed, passed, before, judged}
use Rattle.sc_input_rules.proofs.ClauseSpelling.{clause_tokens}
use Rattle.sc_text_rules.specs.TextPosition.{position_behind, text_position, formula}
use Rattle.sc_text_rules.specs.TextLimits.{text_bounds, text_limits, text_fault_at}
use Rattle.sc_text_rules.specs.ProofText.{proof_text}
use Rattle.sc_text_rules.specs.ProofGrammar.{proof_section, alone}
use Rattle.sc_text_rules.specs.ProofReading.{judged_proof, proof_of}
use Rattle.sc_text_laws.specs.Printable.{IsPrintable}
use Rattle.sc_text_laws.proofs.Walks.{Walk, walk_join, walk_both, walk_move, walk_splits, walk_at, walk_unpassed}
use Rattle.sc_text_laws.proofs.Prefixes.{split_cases}
use Rattle.sc_input_rules.proofs.NoStop.{clause_no_stop}
use Rattle.sc_text_laws.proofs.WordTokens.{tokens_at, from_byte, past}
use Rattle.sc_text_laws.proofs.NumberTexts.{all_digits}
use Rattle.sc_text_laws.proofs.WordRows.{fits}
use Rattle.sc_text_laws.proofs.NamesKnown.{NameClear}
use Rattle.sc_text_laws.proofs.ClauseClear.{Measured, clause_names, clause_measured}
use Rattle.sc_text_laws.proofs.Passing.{Passes, passes_by, formula_is_clause}
use Rattle.sc_text_laws.proofs.StepSpelling.{step_tokens, quiet}
use Rattle.sc_text_laws.proofs.StepClear.{step_passes, number_passes, step_no_colon, step_no_stop}
use Rattle.sc_text_laws.proofs.LineSpelling.{LineTree, line_tokens, IsClearLine}
use Rattle.sc_text_laws.proofs.ProofSpelling.{heading_tokens, section_tokens, proof_spelt}

-- ---- sentences

-- these tokens end with a full stop, or are none: what follows them begins a sentence
record EndsSentence (front : List Token) : Type 0 where
  law : (t : Token) (ts : List Token) → text_position (front ++ t ∷ ts) ≡ text_position (t ∷ ts)

at_start : EndsSentence []
at_start = record { law = λ t ts. refl }

abbrev HasNoStop : List Token → Type 0
HasNoStop ts = AllByRecursion (λ t. is_sign Stop t ≡ false) ts

-- behind a full stop nothing of the sentence is kept
behind_stop : (earlier ts : List Token) (stop : ℕ) (u : Token) (us : List Token) → HasNoStop ts → position_behind earlier (ts ++ Punctuation stop Stop ∷ u ∷ us) ≡ position_behind [] (u ∷ us)
behind_stop earlier [] stop u us h = refl
behind_stop earlier (t ∷ []) stop u us h = ap (λ (b : Bool). position_behind (if b then [] else (earlier ++ t ∷ [])) (Punctuation stop Stop ∷ u ∷ us)) h.0
behind_stop earlier (t ∷ v ∷ vs) stop u us h =
    ap (λ (b : Bool). position_behind (if b then [] else (earlier ++ t ∷ [])) (v ∷ (vs ++ Punctuation stop Stop ∷ u ∷ us))) h.0 ∙ behind_stop (earlier ++ t ∷ []) (v ∷ vs) stop u us h.1

-- the position of the last of some tokens
position_is : (earlier us : List Token) (t : Token) → HasNoStop us → position_behind earlier (us ++ t ∷ []) ≡ Some (record { earlier = earlier ++ us; last = t })
position_is earlier [] t h = ap (λ (ts : List Token). Some (record { earlier = ts; last = t })) (sym (append-nil earlier))
position_is earlier (u ∷ []) t h = ap (λ (b : Bool). position_behind (if b then [] else (earlier ++ u ∷ [])) (t ∷ [])) h.0
position_is earlier (u ∷ v ∷ vs) t h =
    ap (λ (b : Bool). position_behind (if b then [] else (earlier ++ u ∷ [])) (v ∷ (vs ++ t ∷ []))) h.0
    ∙ position_is (earlier ++ u ∷ []) (v ∷ vs) t h.1 ∙ ap (λ (ts : List Token). Some (record { earlier = ts; last = t })) (append_assoc earlier (u ∷ []) (v ∷ vs))

begins : (front ts : List Token) (u : Token) (us : List Token) → EndsSentence front → text_position (front ++ (ts ++ u ∷ us)) ≡ text_position (ts ++ u ∷ us)
begins front [] u us s = s.law u us
begins front (t ∷ ts) u us s = s.law t (ts ++ u ∷ us)

next_sentence : (front ts : List Token) (stop : ℕ) → EndsSentence front → HasNoStop ts → EndsSentence (front ++ (ts ++ Punctuation stop Stop ∷ []))
next_sentence front ts stop s h =
    record {
      law = λ u us.
          ap text_position (append_assoc front (ts ++ Punctuation stop Stop ∷ []) (u ∷ us) ∙ ap (λ vs. front ++ vs) (append_assoc ts (Punctuation stop Stop ∷ []) (u ∷ us)))
          ∙ begins front ts (Punctuation stop Stop) (u ∷ us) s ∙ behind_stop [] ts stop u us h;
    }

module _ (symbols : List Symbol) where
  abbrev fault_at : List Token → Option Place
  fault_at tokens = text_fault_at text_bounds symbols tokens

  abbrev Unpassed : List Token → Token → Type 0
  Unpassed us t = fault_at (us ++ t ∷ []) ≡ None

  unpassed_at : (front us : List Token) (t : Token) → EndsSentence front → HasNoStop us → Passes symbols us t → Unpassed (front ++ us) t
  unpassed_at front us t s h passes =
      ap fault_at (append_assoc front us (t ∷ []))
      ∙ ap (option_and_then (passed (text_limits text_bounds symbols))) (begins front us t [] s ∙ position_is [] us t h)
      ∙ passes

  -- before the full stop of a sentence there is none
  no_stop_before : (ts us more : List Token) (stop : ℕ) (t : Token) → HasNoStop ts → ts ++ Punctuation stop Stop ∷ [] ≡ us ++ t ∷ more → HasNoStop us
  no_stop_before ts us more stop t h e =
      split_cases (HasNoStop us) ts (Punctuation stop Stop ∷ []) us (t ∷ more) e
      (λ m k. (all_split (λ t. is_sign Stop t ≡ false) us m (subst HasNoStop k h)).0)
      (λ v k l. by v k l)
    where
      by : (v : List Token) → us ≡ ts ++ v → Punctuation stop Stop ∷ [] ≡ v ++ t ∷ more → HasNoStop us
      by [] k l = subst HasNoStop (sym (k ∙ append-nil ts)) h
      by (x ∷ []) k l = absurd cc
      by (x ∷ y ∷ ys) k l = absurd cc

  sentence_unpassed : (front ts : List Token) (stop : ℕ) → EndsSentence front → HasNoStop ts → Walk (Passes symbols) [] (ts ++ Punctuation stop Stop ∷ []) → Walk Unpassed front (ts ++ Punctuation stop Stop ∷ [])
  sentence_unpassed front ts stop s h walk =
      walk_splits Unpassed front (ts ++ Punctuation stop Stop ∷ []) (λ us t more e.
      unpassed_at front us t s (no_stop_before ts us more stop t h e) (walk_at (Passes symbols) [] (ts ++ Punctuation stop Stop ∷ []) walk us t more e))

  -- ---- a line

  clause_walk : (l : LineTree) → IsClearLine symbols l → Walk (λ us t. NameClear symbols false us t × Measured (us ++ t ∷ [])) [] (clause_tokens l.clause ++ Punctuation l.stop Stop ∷ [])
  clause_walk l h =
      let all = clause_tokens l.clause ++ Punctuation l.stop Stop ∷ [] in
      let measured = clause_measured symbols l.clause l.stop h.known h.light h.shallow in
      walk_both (NameClear symbols false) (λ us t. Measured (us ++ t ∷ [])) [] all (clause_names symbols l.clause l.stop h.known h.spelt)
      (walk_splits (λ us t. Measured (us ++ t ∷ [])) [] all (λ us t more e. measured (us ++ t ∷ []) more (e ∙ sym (append_assoc us (t ∷ []) more))))

  line_walk : (l : LineTree) → IsClearLine symbols l → Walk (Passes symbols) [] (line_tokens l)
  line_walk l h =
      let w = decimal l.number in
      let digits = all_digits l.number (fits l.number h.number) in
      let number = Word l.at w in
      let steps = step_tokens l.step in
      let colon = Punctuation l.colon Colon in
      let base = number ∷ (steps ++ colon ∷ []) in
      let all = clause_tokens l.clause ++ Punctuation l.stop Stop ∷ [] in
      let bars = step_no_colon l.step in
      let s = step_passes symbols l.at w digits l.step h.step in
      let clause = walk_move (λ us t. NameClear symbols false us t × Measured (us ++ t ∷ [])) (Passes symbols) base [] all (λ us t k.
      passes_by symbols (base ++ us) t (Some (record { is_term = false; tokens = us })) (Some (record { is_term = false; tokens = us ++ t ∷ [] }))
      (ap (λ (ts : List Token). formula (number ∷ ts)) (append_assoc steps (colon ∷ []) us) ∙ formula_is_clause l.at w digits steps l.colon us bars)
      (ap (λ (ts : List Token). formula (number ∷ ts)) (append_assoc (steps ++ colon ∷ []) us (t ∷ []) ∙ append_assoc steps (colon ∷ []) (us ++ t ∷ [])) ∙ formula_is_clause l.at w digits steps l.colon (us ++ t ∷ []) bars)
      k.0 k.1) (clause_walk l h) in (
        number_passes symbols l.at w digits (quiet l.number h.number),
        walk_join (Passes symbols) (number ∷ []) steps (colon ∷ all) s.walk (s.end l.colon, subst (λ (ts : List Token). Walk (Passes symbols) ts all) (append-nil base) clause),
      )

  -- a line is a sentence
  abbrev before_stop : LineTree → List Token
  before_stop l = Word l.at (decimal l.number) ∷ (step_tokens l.step ++ (Punctuation l.colon Colon ∷ clause_tokens l.clause))

  line_is : (l : LineTree) → line_tokens l ≡ before_stop l ++ Punctuation l.stop Stop ∷ []
  line_is l = ap (λ (ts : List Token). Word l.at (decimal l.number) ∷ ts) (sym (append_assoc (step_tokens l.step) (Punctuation l.colon Colon ∷ clause_tokens l.clause) (Punctuation l.stop Stop ∷ [])))

  line_no_stop : (l : LineTree) → HasNoStop (before_stop l)
  line_no_stop l = (refl, all_join (λ t. is_sign Stop t ≡ false) (step_tokens l.step) (Punctuation l.colon Colon ∷ clause_tokens l.clause) (step_no_stop l.step) (refl, clause_no_stop l.clause))

  -- ---- sentences in a row

  record Sentences (front ts : List Token) : Type 0 where
    walk : Walk Unpassed front ts
    ends : EndsSentence (front ++ ts)

  one_sentence : (front ts : List Token) (stop : ℕ) → EndsSentence front → HasNoStop ts → Walk (Passes symbols) [] (ts ++ Punctuation stop Stop ∷ []) → Sentences front (ts ++ Punctuation stop Stop ∷ [])
  one_sentence front ts stop s h walk = record { walk = sentence_unpassed front ts stop s h walk; ends = next_sentence front ts stop s h }

  then_sentences : (front xs ys : List Token) → Sentences front xs → Sentences (front ++ xs) ys → Sentences front (xs ++ ys)
  then_sentences front xs ys h k = record { walk = walk_join Unpassed front xs ys h.walk k.walk; ends = subst EndsSentence (append_assoc front xs ys) k.ends }

  line_sentence : (front : List Token) (l : LineTree) → IsClearLine symbols l → EndsSentence front → Sentences front (line_tokens l)
  line_sentence front l h s =
      subst (Sentences front) (sym (line_is l)) (one_sentence front (before_stop l) l.stop s (line_no_stop l) (subst (Walk (Passes symbols) []) (line_is l) (line_walk l h)))

  lines_sentences : (front : List Token) (ls : List LineTree) → AllByRecursion (IsClearLine symbols) ls → EndsSentence front → Sentences front (flat_map line_tokens ls)
  lines_sentences front [] h s = record { walk = tt; ends = subst EndsSentence (sym (append-nil front)) s }
  lines_sentences front (l ∷ ls) h s =
      let one = line_sentence front l h.0 s in
      then_sentences front (line_tokens l) (flat_map line_tokens ls) one (lines_sentences (front ++ line_tokens l) ls h.1 one.ends)

  begin_sentence : (at : ℕ) → Sentences [] (heading_tokens at (codes "proof"))
  begin_sentence at =
      let w = codes "proof" in
      one_sentence [] (Word at w ∷ []) (past w at) at_start (refl, tt)
      (passes_by symbols [] (Word at w) None None refl refl refl tt, (passes_by symbols (Word at w ∷ []) (Punctuation (past w at) Stop) None None refl refl refl tt, tt))

  end_sentence : (front : List Token) (at : ℕ) → EndsSentence front → Sentences front (heading_tokens at (codes "end_of_proof"))
  end_sentence front at s =
      let w = codes "end_of_proof" in
      one_sentence front (Word at w ∷ []) (past w at) s (refl, tt)
      (passes_by symbols [] (Word at w) None None refl refl refl tt, (passes_by symbols (Word at w ∷ []) (Punctuation (past w at) Stop) None None refl refl refl tt, tt))

  section_sentences : (at : ℕ) (ls : List LineTree) (end : ℕ) → AllByRecursion (IsClearLine symbols) ls → Sentences [] (section_tokens at ls end)
  section_sentences at ls end h =
      let heading = heading_tokens at (codes "proof") in
      let inside = flat_map line_tokens ls in
      let begin = begin_sentence at in
      let lines = lines_sentences heading ls h begin.ends in
      then_sentences [] heading (inside ++ heading_tokens end (codes "end_of_proof")) begin
      (then_sentences heading inside (heading_tokens end (codes "end_of_proof")) lines (end_sentence (heading ++ inside) end lines.ends))

  -- no limit is passed at any token of a printed proof section
  section_unpassed : (at : ℕ) (ls : List LineTree) (end : ℕ) → AllByRecursion (IsClearLine symbols) ls → first_passed (text_fault_at text_bounds symbols) (section_tokens at ls end) ≡ None
  section_unpassed at ls end h = let s = section_sentences at ls end h in walk_unpassed fault_at [] (section_tokens at ls end) s.walk

-- ---- the law

all_before : (ts : List Token) → before [] ts ≡ ts
all_before ts = let none : length ts - 0 ≡ length ts = omega arith in ap (λ (n : ℕ). take n ts) none ∙ take-length ts

judged_ok : (symbols : List Symbol) (lines : List Line) (end : ℕ) (tokens : List Token) → alone (proof_section symbols tokens) ≡ Ok (lines, [])
    → first_passed (text_fault_at text_bounds symbols) tokens ≡ None → judged_proof text_bounds symbols end tokens ≡ Ok (lines, [])
judged_ok symbols lines end tokens read unpassed =
    let fault = text_fault_at text_bounds symbols in
    ap (judged fault end tokens) read
    ∙ ap (λ (o : Option Place). elim o as (λ _. Result (List Line × List Token) Place) [ None ↦ Ok (lines, []) | Some p ↦ Err p ]) (ap (first_passed fault) (all_before tokens) ∙ unpassed)

-- a printed proof section that stands behind other bytes is read back to its lines
pub proof_back_behind : (symbols : List Symbol) (lines : List Line) (front : List ℕ) → IsPrintable symbols lines → proof_of symbols (front ++ proof_text symbols lines) (length front) ≡ Ok lines
proof_back_behind symbols lines front may =
    let text = proof_text symbols lines in
    let at = length front in
    let bytes = front ++ text in
    let s = proof_spelt symbols lines at may in
    let tokens = from_byte at bytes ∙ ap (tokens_at at) (drop-append_seam front text) ∙ s.tokens in
    ap (λ (r : Result (List Line × List Token) Place). elim r as (λ _. Result (List Line) Place) [ Ok r ↦ Ok r.0 | Err p ↦ Err p ])
    (ap (judged_proof text_bounds symbols (length bytes)) tokens
    ∙ judged_ok symbols lines (length bytes) (section_tokens at s.trees s.end) s.read (section_unpassed symbols at s.trees s.end s.clear))

-- and so is one that stands alone
pub proof_back : (symbols : List Symbol) (lines : List Line) → IsPrintable symbols lines → proof_of symbols (proof_text symbols lines) 0 ≡ Ok lines
proof_back symbols lines may = proof_back_behind symbols lines [] may
