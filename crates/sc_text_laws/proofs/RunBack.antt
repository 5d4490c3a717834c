-- A printed run is read back as itself, with no limit passed.
use Rattle.std.proofs.Common.{◌≡◌, ◌∙◌, sym, ap, refl, ℕ, ◌+◌, ◌-◌, ◌≤◌, List, [], ◌∷◌, ◌++◌, take, length, append_assoc, Option, Some, None, Result, Ok, Err, arith}
use Rattle.std.specs.Prelude.{codes, decimal, flat_map}
use Rattle.std.specs.List.{AllByRecursion}
use Rattle.std.proofs.Math.Seq.{take-length, drop-append_seam}
use Rattle.std.proofs.lemmas.List.{append-nil}
use Rattle.sc_term.specs.declared.Line.{Line}
use Rattle.sc_term.specs.declared.symbol.Symbol.{Symbol}
use Rattle.sc_core_rules.specs.declared.row.GivenRow.{GivenRow}
use Rattle.sc_core_rules.specs.declared.row.KeptRow.{KeptRow}
use Rattle.sc_core_rules.specs.declared.row.Outcome.{Outcome}
use Rattle.sc_core_rules.specs.declared.row.Outcome.TheVariants as outcome
use Rattle.sc_text_run_rules.specs.declared.run.FinderEnd.{FinderEnd}
use Rattle.sc_text_run_rules.specs.declared.run.MarkRow.{MarkRow}
use Rattle.sc_text_run_rules.specs.ModelText.{row, without_equality}
use Rattle.sc_text_run_rules.specs.RunText.{end_word, outcome_words, lists_rows, given_row, kept_row, finder_rows, mark_row, proof_part, run_text}
use Rattle.sc_text_run_rules.specs.RunValue.{VersionValue, RunValue}
use Rattle.sc_input_rules.specs.declared.fault.Place.{Place}
use Rattle.sc_input_rules.specs.declared.token.Token.{Token}
use Rattle.sc_input_rules.specs.Reader.{◌>>=◌}
use Rattle.sc_input_rules.specs.Faults.{first_passed, before, judged}
use Rattle.sc_input_rules.specs.ProblemGrammar.{next_is_word}
use Rattle.sc_text_rules.specs.ProofText.{proof_text}
use Rattle.sc_text_rules.specs.TextLimits.{text_bounds, text_fault_at}
use Rattle.sc_text_rules.specs.ProofGrammar.{the_heading, proof_section, alone}
use Rattle.sc_text_run_rules.specs.RowWords.{counted}
use Rattle.sc_text_run_rules.specs.VersionGrammar.{NextVersion, a_version, behind_version, versions, by_finder}
use Rattle.sc_text_run_rules.specs.RowGrammar.{a_given_row, given_rows, a_kept_row, kept_rows, a_finder_row, an_end_row, a_mark_row}
use Rattle.sc_text_run_rules.specs.RunSection.{a_counted_row, Heading, Turns, MarkedProof, a_run_heading, version_lists, turns, no_proof, proof_behind, run_of_parts, run_section}
use Rattle.sc_text_run_rules.specs.RunReading.{judged_run, run_of}
use Rattle.sc_text_laws.specs.Printable.{AreNamed, IsNamed, IsShort}
use Rattle.sc_text_laws.proofs.WordTokens.{tokens_at, from_byte, no_token}
use Rattle.sc_text_laws.specs.PrintableRun.{AreVersions, IsGivenRow, AreGivenRows, IsKeptRow, AreKeptRows, IsMarkRow, AreMarkRows, IsShortOutcome, HasItsProof, IsPrintableRun}
use Rattle.sc_text_laws.proofs.Sentences.{at_start, sentences_unpassed}
use Rattle.sc_text_laws.proofs.Parts.{Part, Anything, no_part, then_part, made_part, same_text_part, same_value_part, same_reading_part}
use Rattle.sc_text_laws.proofs.RowsInTurn.{AreRows, AreCounted, IsNoNext, rows_spelt, rows_part, counted_spelt, counted_part}
use Rattle.sc_text_laws.proofs.SmallRows.{run_heading, end_heading, lists_row, ratio_row, given_spelt, finder_spelt, mark_spelt, end_row_part}
use Rattle.sc_text_laws.proofs.KeptRows.{kept_spelt}
use Rattle.sc_text_laws.proofs.TableRows.{AreTableSymbols}
use Rattle.sc_text_laws.proofs.VersionRows.{MayFollow, placed_text, version_spelt}
use Rattle.sc_text_laws.proofs.PlacedLists.{placed_lists, lists_text, lists_in_turn, lists_back}
use Rattle.sc_text_laws.proofs.SectionBack.{section_part}

-- ---- what is right of rows, one by one

given_right : (turn : ℕ) (gs : List GivenRow) → AreGivenRows turn gs → AreRows IsGivenRow (λ t g. t + 1) turn gs
given_right turn [] h = tt
given_right turn (g ∷ gs) h = (h.0, given_right (turn + 1) gs h.1)

kept_right : (symbols : List Symbol) (least : ℕ) (ks : List KeptRow) → AreKeptRows symbols least ks → AreRows (IsKeptRow symbols) (λ l k. k.number + 1) least ks
kept_right symbols least [] h = tt
kept_right symbols least (k ∷ ks) h = (h.0, kept_right symbols (k.number + 1) ks h.1)

marks_right : (line : ℕ) (ms : List MarkRow) → AreMarkRows line ms → AreCounted IsMarkRow line ms
marks_right line [] h = tt
marks_right line (m ∷ ms) h = (h.0, marks_right (line + 1) ms h.1)

ends_right : (finder : ℕ) (es : List FinderEnd) → finder + length es ≤ 9 → AreCounted (λ k e. IsShort k) finder es
ends_right finder [] le = tt
ends_right finder (e ∷ es) le = (omega (arith, le), ends_right (finder + 1) es (omega (arith, le)))

table_symbols : (symbols : List Symbol) → AreNamed symbols → AreTableSymbols (without_equality symbols)
table_symbols [] h = tt
table_symbols (s ∷ symbols) h = let signature = h.signature in by symbols h.names signature.arities.1
  where
    by : (ss : List Symbol) → AllByRecursion IsNamed ss → AllByRecursion (λ (s : Symbol). s.arity ≤ 8) ss → AreTableSymbols ss
    by [] n a = tt
    by (s ∷ ss) n a = let one = n.0 in ((one.name, a.0), by ss n.1 a.1)

module _ (symbols : List Symbol) (h : AreNamed symbols) where
  -- ---- the heading

  abbrev heading_text : ℕ → ℕ → List ℕ
  heading_text lists ratio = row (codes "run" ∷ []) ++ (row (codes "lists" ∷ decimal lists ∷ []) ++ row (codes "ratio" ∷ decimal ratio ∷ []))

  heading_part : (lists ratio at : ℕ) (rest : List ℕ) → 1 ≤ lists → lists ≤ 8 → (1 ≤ ratio) × (ratio ≤ 1001) → Part symbols Anything a_run_heading (record { lists = lists; ratio = ratio }) (heading_text lists ratio) at rest
  heading_part lists ratio at rest some few r =
      let first = row (codes "run" ∷ []) in
      let second = row (codes "lists" ∷ decimal lists ∷ []) in
      let third = row (codes "ratio" ∷ decimal ratio ∷ []) in
      let whole : Heading = record { lists = lists; ratio = ratio } in
      let first_row = run_heading symbols at ((second ++ third) ++ rest) in
      let a = first_row.part in
      let second_row = lists_row symbols lists a.next (third ++ rest) some few in
      let b = second_row.part in
      let third_row = ratio_row symbols ratio b.next rest r.0 r.1 in
      let c = made_part symbols Anything (λ r. record { lists = lists; ratio = r }) (a_counted_row (codes "ratio") 1 1001) ratio third b.next rest third_row.part in
      then_part symbols Anything Anything (the_heading (codes "run")) (λ begin. a_counted_row (codes "lists") 1 8 begin.1 >>= λ n. a_counted_row (codes "ratio") 1 1001 n.1 >>= λ r. Ok (record { lists = n.0; ratio = r.0 }, r.1)) tt whole first (second ++ third) at rest a
      (then_part symbols Anything Anything (a_counted_row (codes "lists") 1 8) (λ n. a_counted_row (codes "ratio") 1 1001 n.1 >>= λ r. Ok (record { lists = n.0; ratio = r.0 }, r.1)) lists whole second third a.next rest b c (λ left m. tt)) (λ left m. tt)

  -- ---- the versions

  lists_part : (ls : List (List VersionValue)) (at : ℕ) (rest : List ℕ) → length ls ≤ 8 → AllByRecursion (AreVersions symbols) ls → Part symbols (IsNoNext (codes "version")) (version_lists symbols (length ls)) ls (lists_rows symbols 1 ls) at rest
  lists_part ls at rest few each =
      let lists = length ls in
      let next : NextVersion = record { finder = 1; place = 0 } in
      let vs = placed_lists 1 ls in
      let text = placed_text symbols in
      let one = a_version symbols (length ls) in
      let right = lists_in_turn symbols lists few 1 ls next (omega arith) (λ e. refl) (omega arith) each in
      let spelt = version_spelt symbols (table_symbols symbols h) lists in
      let r = rows_spelt symbols (codes "version") refl one behind_version text (MayFollow symbols lists) spelt next vs at rest right in
      let p = rows_part symbols (codes "version") refl one behind_version text (MayFollow symbols lists) spelt next vs at rest r in
      same_text_part symbols (IsNoNext (codes "version")) (version_lists symbols (length ls)) ls (flat_map (placed_text symbols) vs) (lists_rows symbols 1 ls) at rest (lists_text symbols 1 ls)
      (same_value_part symbols (IsNoNext (codes "version")) (version_lists symbols (length ls)) (by_finder (length ls) 1 vs) ls (flat_map (placed_text symbols) vs) at rest (lists_back 1 ls)
      (made_part symbols (IsNoNext (codes "version")) (by_finder (length ls) 1) (versions symbols (length ls) next) vs (flat_map (placed_text symbols) vs) at rest p))

  -- ---- the turns

  abbrev turns_text : Turns → List ℕ
  turns_text t = flat_map given_row t.given ++ (flat_map (kept_row symbols) t.kept ++ (finder_rows 1 t.ends ++ row (codes "end" ∷ outcome_words t.outcome)))

  record AreTurns (lists : ℕ) (t : Turns) : Type 0 where
    given : AreGivenRows 1 t.given
    kept : AreKeptRows symbols 0 t.kept
    some : 1 ≤ length t.ends
    few : length t.ends ≤ 8
    ends : length t.ends ≡ lists
    outcome : IsShortOutcome t.outcome

  record TurnsBack (lists : ℕ) (t : Turns) (at : ℕ) (rest : List ℕ) : Type 0 where
    part : Part symbols Anything (turns symbols lists) t (turns_text t) at rest
    other : (left : List Token) → IsNoNext (codes "version") (part.tokens ++ left)

  -- another word than that of the front
  not_behind : (name : List ℕ) (xs ys left : List Token) → IsNoNext name (xs ++ (ys ++ left)) → IsNoNext name ((xs ++ ys) ++ left)
  not_behind name xs ys left e = ap (next_is_word name) (append_assoc xs ys left) ∙ e

  turns_back : (lists : ℕ) (t : Turns) (at : ℕ) (rest : List ℕ) → AreTurns lists t → TurnsBack lists t at rest
  turns_back lists t at rest may =
      let given_text = flat_map given_row t.given in
      let kept_text = flat_map (kept_row symbols) t.kept in
      let ends_text = finder_rows 1 t.ends in
      let end_text = row (codes "end" ∷ outcome_words t.outcome) in
      let few = may.few in
      let g = rows_spelt symbols (codes "given") refl a_given_row (λ t g. t + 1) given_row IsGivenRow (given_spelt symbols) 1 t.given at ((kept_text ++ (ends_text ++ end_text)) ++ rest) (given_right 1 t.given may.given) in
      let k = rows_spelt symbols (codes "kept") refl (a_kept_row symbols) (λ l k. k.number + 1) (kept_row symbols) (IsKeptRow symbols) (kept_spelt symbols h) 0 t.kept g.next ((ends_text ++ end_text) ++ rest) (kept_right symbols 0 t.kept may.kept) in
      let row_of = λ (n : ℕ) (e : FinderEnd). row (codes "finder" ∷ decimal n ∷ end_word e ∷ []) in
      let f = counted_spelt symbols (codes "finder") a_finder_row row_of finder_rows (λ n. refl) (λ n e es. refl) (λ n e. IsShort n) (finder_spelt symbols) 1 t.ends k.next (end_text ++ rest) (ends_right 1 t.ends (omega (arith, few))) in
      let end_row = end_row_part symbols t.outcome f.next rest may.outcome in
      let o = end_row.part in
      let last = made_part symbols Anything (λ o. record { given = t.given; kept = t.kept; ends = t.ends; outcome = o }) an_end_row t.outcome end_text f.next rest o in
      let finders = same_reading_part symbols Anything (λ ts. counted a_finder_row (length ts) 1 (length t.ends) ts) (λ ts. counted a_finder_row (length ts) 1 lists ts) t.ends ends_text k.next (end_text ++ rest)
      (λ ts. ap (λ n. counted a_finder_row (length ts) 1 n ts) (sym may.ends))
      (counted_part symbols (codes "finder") a_finder_row row_of finder_rows (λ n. refl) (λ n e es. refl) (λ n e. IsShort n) (finder_spelt symbols) 1 t.ends k.next (end_text ++ rest) f) in
      let three = then_part symbols Anything Anything (λ ts. counted a_finder_row (length ts) 1 lists ts) (λ es. an_end_row es.1 >>= λ o. Ok (record { given = t.given; kept = t.kept; ends = es.0; outcome = o.0 }, o.1)) t.ends t ends_text end_text k.next rest finders last (λ left m. tt) in
      let no_kept = λ (left : List Token). not_behind (codes "kept") f.tokens o.tokens left (f.other (codes "kept") (o.tokens ++ left) refl may.some) in
      let no_given = λ (left : List Token). not_behind (codes "given") f.tokens o.tokens left (f.other (codes "given") (o.tokens ++ left) refl may.some) in
      let no_version = λ (left : List Token). not_behind (codes "version") f.tokens o.tokens left (f.other (codes "version") (o.tokens ++ left) refl may.some) in
      let two = then_part symbols (IsNoNext (codes "kept")) Anything (kept_rows symbols 0) (λ ks. counted a_finder_row (length ks.1) 1 lists ks.1 >>= λ es. an_end_row es.1 >>= λ o. Ok (record { given = t.given; kept = ks.0; ends = es.0; outcome = o.0 }, o.1)) t.kept t kept_text (ends_text ++ end_text) g.next rest
      (rows_part symbols (codes "kept") refl (a_kept_row symbols) (λ l k. k.number + 1) (kept_row symbols) (IsKeptRow symbols) (kept_spelt symbols h) 0 t.kept g.next ((ends_text ++ end_text) ++ rest) k) three (λ left m. no_kept left) in
      let given_next = λ (left : List Token). not_behind (codes "given") k.tokens (f.tokens ++ o.tokens) left (k.other (codes "given") ((f.tokens ++ o.tokens) ++ left) refl (no_given left)) in
      let version_next = λ (left : List Token). not_behind (codes "version") k.tokens (f.tokens ++ o.tokens) left (k.other (codes "version") ((f.tokens ++ o.tokens) ++ left) refl (no_version left)) in
      record {
        part = then_part symbols (IsNoNext (codes "given")) Anything (given_rows 1) (λ gs. kept_rows symbols 0 gs.1 >>= λ ks. counted a_finder_row (length ks.1) 1 lists ks.1 >>= λ es. an_end_row es.1 >>= λ o. Ok (record { given = gs.0; kept = ks.0; ends = es.0; outcome = o.0 }, o.1)) t.given t given_text (kept_text ++ (ends_text ++ end_text)) at rest
            (rows_part symbols (codes "given") refl a_given_row (λ t g. t + 1) given_row IsGivenRow (given_spelt symbols) 1 t.given at ((kept_text ++ (ends_text ++ end_text)) ++ rest) g) two (λ left m. given_next left);
        other = λ left. not_behind (codes "version") g.tokens (k.tokens ++ (f.tokens ++ o.tokens)) left (g.other (codes "version") ((k.tokens ++ (f.tokens ++ o.tokens)) ++ left) refl (version_next left));
      }

  -- ---- the proof

  marks_part : (line : ℕ) (ms : List MarkRow) (at : ℕ) (rest : List ℕ) → AreMarkRows line ms → Part symbols Anything (λ ts. counted a_mark_row (length ts) line (length ms) ts) ms (flat_map mark_row ms) at rest
  marks_part line ms at rest may =
      counted_part symbols (codes "mark") a_mark_row (λ k m. mark_row m) (λ k ms. flat_map mark_row ms) (λ k. refl) (λ k m ms. refl) IsMarkRow (mark_spelt symbols) line ms at rest
      (counted_spelt symbols (codes "mark") a_mark_row (λ k m. mark_row m) (λ k ms. flat_map mark_row ms) (λ k. refl) (λ k m ms. refl) IsMarkRow (mark_spelt symbols) line ms at rest (marks_right line ms may))

  proof_back : (o : Outcome) (lines : List Line) (marks : List MarkRow) (at : ℕ) (rest : List ℕ) → HasItsProof symbols o lines marks
      → Part symbols Anything (proof_behind o symbols) (record { lines = lines; marks = marks }) (proof_part symbols o lines marks) at rest
  proof_back outcome.Proof lines marks at rest may =
      let text = proof_text symbols lines in
      let behind = flat_map mark_row marks in
      let s = section_part symbols h lines at (behind ++ rest) may.few may.each in
      let whole : MarkedProof = record { lines = lines; marks = marks } in
      let m = same_reading_part symbols Anything (λ ts. counted a_mark_row (length ts) 1 (length marks) ts) (λ ts. counted a_mark_row (length ts) 1 (length lines) ts) marks behind s.next rest
      (λ ts. ap (λ n. counted a_mark_row (length ts) 1 n ts) (sym may.many)) (marks_part 1 marks s.next rest may.each_mark) in
      then_part symbols Anything Anything (proof_section symbols) (λ ls. counted a_mark_row (length ls.1) 1 (length ls.0) ls.1 >>= λ ms. Ok (record { lines = ls.0; marks = ms.0 }, ms.1)) lines whole text behind at rest s
      (made_part symbols Anything (λ ms. record { lines = lines; marks = ms }) (λ ts. counted a_mark_row (length ts) 1 (length lines) ts) marks behind s.next rest m) (λ left m. tt)
  proof_back outcome.SosEmpty lines marks at rest may = without lines marks at rest may
    where
      without : (lines : List Line) (marks : List MarkRow) (at : ℕ) (rest : List ℕ) → (lines ≡ []) × (marks ≡ []) → Part symbols Anything (λ ts. Ok (no_proof, ts)) (record { lines = lines; marks = marks }) [] at rest
      without lines marks at rest may = same_value_part symbols Anything (λ ts. Ok (no_proof, ts)) no_proof (record { lines = lines; marks = marks }) [] at rest (λ i. record { lines = sym may.0 i; marks = sym may.1 i }) (no_part symbols Anything no_proof at rest)
  proof_back (outcome.GivenLimit n) lines marks at rest may = same_value_part symbols Anything (λ ts. Ok (no_proof, ts)) no_proof (record { lines = lines; marks = marks }) [] at rest (λ i. record { lines = sym may.0 i; marks = sym may.1 i }) (no_part symbols Anything no_proof at rest)
  proof_back (outcome.KeptLimit n) lines marks at rest may = same_value_part symbols Anything (λ ts. Ok (no_proof, ts)) no_proof (record { lines = lines; marks = marks }) [] at rest (λ i. record { lines = sym may.0 i; marks = sym may.1 i }) (no_part symbols Anything no_proof at rest)
  proof_back (outcome.WorkLimit n) lines marks at rest may = same_value_part symbols Anything (λ ts. Ok (no_proof, ts)) no_proof (record { lines = lines; marks = marks }) [] at rest (λ i. record { lines = sym may.0 i; marks = sym may.1 i }) (no_part symbols Anything no_proof at rest)

  -- ---- the whole

  abbrev turns_of : RunValue → Turns
  turns_of run = record { given = run.given; kept = run.kept; ends = run.ends; outcome = run.outcome }

  -- the parts of the text, from left to right
  abbrev parts_text : RunValue → List ℕ
  parts_text run =
      heading_text (length run.lists) run.ratio
      ++ (lists_rows symbols 1 run.lists ++ (turns_text (turns_of run) ++ (proof_part symbols run.outcome run.proof run.marks ++ row (codes "end_of_run" ∷ []))))

  regroup : (a b c d e f g i j k : List ℕ) → a ++ b ++ c ++ d ++ e ++ f ++ g ++ i ++ j ++ k ≡ (a ++ (b ++ c)) ++ (d ++ ((e ++ (f ++ (g ++ i))) ++ (j ++ k)))
  regroup a b c d e f g i j k = simp append_assoc refl

  text_is : (run : RunValue) → run_text symbols run ≡ parts_text run
  text_is run =
      regroup (row (codes "run" ∷ [])) (row (codes "lists" ∷ decimal (length run.lists) ∷ [])) (row (codes "ratio" ∷ decimal run.ratio ∷ [])) (lists_rows symbols 1 run.lists)
      (flat_map given_row run.given) (flat_map (kept_row symbols) run.kept) (finder_rows 1 run.ends) (row (codes "end" ∷ outcome_words run.outcome))
      (proof_part symbols run.outcome run.proof run.marks) (row (codes "end_of_run" ∷ []))

  run_part : (run : RunValue) (at : ℕ) → IsPrintableRun symbols run → Part symbols Anything (run_section symbols) run (parts_text run) at []
  run_part run at may =
      let lists = length run.lists in
      let few = may.few in
      let some = may.some in
      let ends = may.ends in
      let t = turns_of run in
      let p : MarkedProof = record { lines = run.proof; marks = run.marks } in
      let heading : Heading = record { lists = lists; ratio = run.ratio } in
      let text_1 = lists_rows symbols 1 run.lists in
      let text_2 = turns_text (turns_of run) in
      let text_3 = proof_part symbols run.outcome run.proof run.marks in
      let text_4 = row (codes "end_of_run" ∷ []) in
      let right : AreTurns lists t = record { given = may.given; kept = may.kept; some = omega (arith, some, ends); few = omega (arith, few, ends); ends = may.ends; outcome = may.outcome } in
      let a = heading_part lists run.ratio at ((text_1 ++ (text_2 ++ (text_3 ++ text_4))) ++ []) some few may.ratio in
      let b = lists_part run.lists a.next ((text_2 ++ (text_3 ++ text_4)) ++ []) few may.versions in
      let c = turns_back lists t b.next ((text_3 ++ text_4) ++ []) right in
      let d = proof_back run.outcome run.proof run.marks c.part.next (text_4 ++ []) may.proof in
      let last_row = end_heading symbols d.next [] in
      let e = made_part symbols Anything (λ u. run_of_parts heading run.lists t p) (the_heading (codes "end_of_run")) tt text_4 d.next [] last_row.part in
      let four = then_part symbols Anything Anything (proof_behind run.outcome symbols) (λ p. the_heading (codes "end_of_run") p.1 >>= λ end. Ok (run_of_parts heading run.lists t p.0, end.1)) p run text_3 text_4 c.part.next [] d e (λ left m. tt) in
      let three = then_part symbols Anything Anything (turns symbols lists) (λ t. proof_behind t.0.outcome symbols t.1 >>= λ p. the_heading (codes "end_of_run") p.1 >>= λ end. Ok (run_of_parts heading run.lists t.0 p.0, end.1)) t run text_2 (text_3 ++ text_4) b.next [] c.part four (λ left m. tt) in
      let two = then_part symbols (IsNoNext (codes "version")) Anything (version_lists symbols lists) (λ ls. turns symbols lists ls.1 >>= λ t. proof_behind t.0.outcome symbols t.1 >>= λ p. the_heading (codes "end_of_run") p.1 >>= λ end. Ok (run_of_parts heading ls.0 t.0 p.0, end.1)) run.lists run text_1 (text_2 ++ (text_3 ++ text_4)) a.next [] b three
      (λ left m. not_behind (codes "version") c.part.tokens four.tokens left (c.other (four.tokens ++ left))) in
      then_part symbols Anything Anything a_run_heading (λ h. version_lists symbols h.0.lists h.1 >>= λ ls. turns symbols h.0.lists ls.1 >>= λ t. proof_behind t.0.outcome symbols t.1 >>= λ p. the_heading (codes "end_of_run") p.1 >>= λ end. Ok (run_of_parts h.0 ls.0 t.0 p.0, end.1)) heading run (heading_text lists run.ratio) (text_1 ++ (text_2 ++ (text_3 ++ text_4))) at [] a two (λ left m. tt)

-- ---- the law

all_before : (ts : List Token) → before [] ts ≡ ts
all_before ts = let none : length ts - 0 ≡ length ts = omega arith in ap (λ (n : ℕ). take n ts) none ∙ take-length ts

judged_ok : (symbols : List Symbol) (run : RunValue) (end : ℕ) (tokens : List Token) → alone (run_section symbols tokens) ≡ Ok (run, [])
    → first_passed (text_fault_at text_bounds symbols) tokens ≡ None → judged_run text_bounds symbols end tokens ≡ Ok (run, [])
judged_ok symbols run end tokens read unpassed =
    let fault = text_fault_at text_bounds symbols in
    ap (judged fault end tokens) read
    ∙ ap (λ (o : Option Place). elim o as (λ _. Result (RunValue × List Token) Place) [ None ↦ Ok (run, []) | Some p ↦ Err p ]) (ap (first_passed fault) (all_before tokens) ∙ unpassed)

-- a printed run that stands behind other bytes is read back
pub run_back_behind : (symbols : List Symbol) (run : RunValue) (front : List ℕ) → AreNamed symbols → IsPrintableRun symbols run → run_of symbols (front ++ run_text symbols run) (length front) ≡ Ok run
run_back_behind symbols run front h may =
    let text = run_text symbols run in
    let at = length front in
    let bytes = front ++ text in
    let s = run_part symbols h run at may in
    let spelt : tokens_at at text ≡ s.tokens = ap (tokens_at at) (text_is symbols h run ∙ sym (append-nil (parts_text symbols h run))) ∙ s.spelt ∙ ap (λ (us : List Token). s.tokens ++ us) (no_token s.next) ∙ append-nil s.tokens in
    let tokens = from_byte at bytes ∙ ap (tokens_at at) (drop-append_seam front text) ∙ spelt in
    let read : run_section symbols s.tokens ≡ Ok (run, []) = ap (run_section symbols) (sym (append-nil s.tokens)) ∙ s.read [] tt in
    ap (λ (r : Result (RunValue × List Token) Place). elim r as (λ _. Result RunValue Place) [ Ok r ↦ Ok r.0 | Err p ↦ Err p ])
    (ap (judged_run text_bounds symbols (length bytes)) tokens ∙ judged_ok symbols run (length bytes) s.tokens (ap alone read) (sentences_unpassed symbols s.tokens (s.passes [] at_start)))
