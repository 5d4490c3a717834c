-- A run text at which no limit is passed is answered as it is.
use Rattle.std.proofs.Common.{◌≡◌, subst, refl, ℕ, ◌+◌, List, [], ◌∷◌, map, length, None, Ok}
use Rattle.std.specs.Prelude.{codes}
use Rattle.sc_term.specs.declared.symbol.Symbol.{Symbol}
use Rattle.sc_core_rules.specs.declared.row.GivenRow.{GivenRow}
use Rattle.sc_core_rules.specs.declared.row.KeptRow.{KeptRow}
use Rattle.sc_core_rules.specs.declared.row.Outcome.{Outcome}
use Rattle.sc_core_rules.specs.declared.row.Outcome.TheVariants as outcome
use Rattle.sc_text_run_rules.specs.declared.run.FinderEnd.{FinderEnd}
use Rattle.sc_input_rules.specs.declared.token.Token.{Token}
use Rattle.sc_input_rules.specs.Reader.{Read, ◌>>=◌, unexpected}
use Rattle.sc_input_rules.specs.Faults.{first_passed}
use Rattle.sc_input_rules.proofs.Taken.{Gives, both, same}
use Rattle.sc_text_rules.specs.TextLimits.{text_bounds, text_fault_at}
use Rattle.sc_text_rules.specs.ProofGrammar.{the_heading, proof_section, alone}
use Rattle.sc_text_section.specs.Clipped.{clipped_line}
use Rattle.sc_text.proofs.TextStanding.{at_first}
use Rattle.sc_text_run_rules.specs.ModelText.{without_equality}
use Rattle.sc_text_run_rules.specs.RunValue.{VersionValue, RunValue}
use Rattle.sc_text_run_rules.specs.RowWords.{counted, rows_of}
use Rattle.sc_text_run_rules.specs.VersionGrammar.{NextVersion, a_version_row, a_table, tables, claims, version_behind, a_version, behind_version, by_finder}
use Rattle.sc_text_run_rules.specs.RowGrammar.{a_given_row, given_rows, a_kept_row, kept_rows, a_finder_row, an_end_row, a_mark_row}
use Rattle.sc_text_run_rules.specs.RunSection.{a_counted_row, Heading, Turns, MarkedProof, a_run_heading, version_lists, turns, marked_proof, no_proof, proof_behind, run_of_parts, run_section}
use Rattle.sc_text_run_section.specs.Seen.{clipped_kept, clipped_turns, clipped_proof, clipped_run}
use Rattle.sc_text_run_section.proofs.RowsSpelt.{heading_sentence, counted_row_sentence, version_row_sentence, table_sentence, claims_sentence, given_sentence, finder_sentence, end_row_sentence, mark_sentence}
use Rattle.sc_text.proofs.Standing.{ReadsExactly, Passes, sentences_pass, first_exact, last_exact, rows_exact, counted_pass}
use Rattle.sc_text.proofs.ExactLines.{section_exact}
use Rattle.sc_text.proofs.ExactRows.{kept_row_exact}

abbrev itself : {A : Type 0} → A → A
itself a = a

module _ (symbols : List Symbol) where
  passes : {A : Type 0} (f : A → A) (p : List Token → Read A) → ReadsExactly symbols f p → Passes symbols p
  passes f p h ts v left s e = record { exact = refl; behind = (h ts v left s e).behind }

  -- ---- before the turns

  heading_passes : Passes symbols a_run_heading
  heading_passes ts v left s e =
      first_exact symbols itself itself (the_heading (codes "run")) (λ begin. a_counted_row (codes "lists") 1 8 begin.1 >>= λ n. a_counted_row (codes "ratio") 1 1001 n.1 >>= λ r. Ok (record { lists = n.0; ratio = r.0 }, r.1)) ts v left
      (sentences_pass symbols (the_heading (codes "run")) (heading_sentence (codes "run"))) (λ u us y s e.
      first_exact symbols itself itself (a_counted_row (codes "lists") 1 8) (λ n. a_counted_row (codes "ratio") 1 1001 n.1 >>= λ r. Ok (record { lists = n.0; ratio = r.0 }, r.1)) us v left
      (sentences_pass symbols (a_counted_row (codes "lists") 1 8) (counted_row_sentence (codes "lists") 1 8)) (λ n us y s e.
      first_exact symbols itself itself (a_counted_row (codes "ratio") 1 1001) (λ r. Ok (record { lists = n; ratio = r.0 }, r.1)) us v left
      (sentences_pass symbols (a_counted_row (codes "ratio") 1 1001) (counted_row_sentence (codes "ratio") 1 1001)) (λ r us y s e.
      last_exact symbols itself (record { lists = n; ratio = r }) v us left refl s e) s e) s e) s e

  tables_pass : (size : ℕ) (ss : List Symbol) → Passes symbols (tables size ss)
  tables_pass size [] ts v left s e = last_exact symbols itself [] v ts left refl s e
  tables_pass size (x ∷ xs) ts v left s e =
      first_exact symbols itself itself (a_table size x) (λ entries. tables size xs entries.1 >>= λ others. Ok (entries.0 ∷ others.0, others.1)) ts v left (sentences_pass symbols (a_table size x) (table_sentence size x)) (λ es us y s e.
      first_exact symbols itself itself (tables size xs) (λ others. Ok (es ∷ others.0, others.1)) us v left (tables_pass size xs) (λ others us y s e. last_exact symbols itself (es ∷ others) v us left refl s e) s e) s e

  behind_passes : (size : ℕ) → Passes symbols (version_behind symbols size)
  behind_passes size ts v left s e =
      first_exact symbols itself itself (tables size (without_equality symbols)) (λ entries. claims entries.1 >>= λ ns. Ok (record { size = size; entries = entries.0; claims = ns.0 }, ns.1)) ts v left (tables_pass size (without_equality symbols)) (λ es us y s e.
      first_exact symbols itself itself claims (λ ns. Ok (record { size = size; entries = es; claims = ns.0 }, ns.1)) us v left (sentences_pass symbols claims claims_sentence) (λ ns us y s e.
      last_exact symbols itself (record { size = size; entries = es; claims = ns }) v us left refl s e) s e) s e

  version_passes : (lists : ℕ) (next : NextVersion) → Passes symbols (a_version symbols lists next)
  version_passes lists next ts v left s e =
      first_exact symbols itself itself (a_version_row symbols lists next) (λ row. version_behind symbols row.0.size row.1 >>= λ v. Ok (record { finder = row.0.finder; place = row.0.place; version = v.0 }, v.1)) ts v left
      (sentences_pass symbols (a_version_row symbols lists next) (version_row_sentence symbols lists next)) (λ row us y s e.
      first_exact symbols itself itself (version_behind symbols row.size) (λ v. Ok (record { finder = row.finder; place = row.place; version = v.0 }, v.1)) us v left (behind_passes row.size) (λ w us y s e.
      last_exact symbols itself (record { finder = row.finder; place = row.place; version = w }) v us left refl s e) s e) s e

  lists_pass : (lists : ℕ) → Passes symbols (version_lists symbols lists)
  lists_pass lists ts v left s e =
      let next : NextVersion = record { finder = 1; place = 0 } in
      first_exact symbols (map itself) itself (λ us. rows_of (codes "version") (a_version symbols lists) behind_version (length us) next us) (λ vs. Ok (by_finder lists 1 vs.0, vs.1)) ts v left
      (λ us. rows_exact symbols itself (codes "version") (a_version symbols lists) behind_version (version_passes lists) (length us) next us) (λ vs us y s e. last_exact symbols itself (by_finder lists 1 vs) v us left refl s e) s e

  -- ---- the turns

  given_pass : (turn : ℕ) → Passes symbols (given_rows turn)
  given_pass turn =
      passes (map itself) (given_rows turn) (λ us. rows_exact symbols itself (codes "given") a_given_row (λ t g. t + 1) (λ t. sentences_pass symbols (a_given_row t) (given_sentence t)) (length us) turn us)

  kept_exact : (least : ℕ) → ReadsExactly symbols (map clipped_kept) (kept_rows symbols least)
  kept_exact least us = rows_exact symbols clipped_kept (codes "kept") (a_kept_row symbols) (λ l k. k.number + 1) (kept_row_exact symbols) (length us) least us

  ends_pass : (n first count : ℕ) → Passes symbols (counted a_finder_row n first count)
  ends_pass = counted_pass symbols a_finder_row (λ f. sentences_pass symbols (a_finder_row f) (finder_sentence f))

  marks_pass : (n first count : ℕ) → Passes symbols (counted a_mark_row n first count)
  marks_pass = counted_pass symbols a_mark_row (λ k. sentences_pass symbols (a_mark_row k) (mark_sentence k))

  abbrev with_ends : List GivenRow → List KeptRow → List FinderEnd → Outcome × List Token → Read Turns
  with_ends given kept ends o = Ok (record { given = given; kept = kept; ends = ends; outcome = o.0 }, o.1)

  abbrev with_kept : ℕ → List GivenRow → List KeptRow × List Token → Read Turns
  with_kept lists given kept = counted a_finder_row (length kept.1) 1 lists kept.1 >>= λ ends. an_end_row ends.1 >>= with_ends given kept.0 ends.0

  turns_exact : (lists : ℕ) → ReadsExactly symbols clipped_turns (turns symbols lists)
  turns_exact lists ts v left s e =
      first_exact symbols itself clipped_turns (given_rows 1) (λ given. kept_rows symbols 0 given.1 >>= with_kept lists given.0) ts v left (given_pass 1) (λ given us y s e.
      first_exact symbols (map clipped_kept) clipped_turns (kept_rows symbols 0) (with_kept lists given) us v left (kept_exact 0) (λ kept us x s e.
      first_exact symbols itself clipped_turns (counted a_finder_row (length us) 1 lists) (λ ends. an_end_row ends.1 >>= with_ends given kept ends.0) us v left (ends_pass (length us) 1 lists) (λ ends us y s e.
      first_exact symbols itself clipped_turns an_end_row (with_ends given kept ends) us v left (sentences_pass symbols an_end_row end_row_sentence) (λ o us y s e.
      last_exact symbols clipped_turns (record { given = given; kept = kept; ends = ends; outcome = o }) v us left (λ i. record { given = given; kept = x i; ends = ends; outcome = o }) s e) s e) s e) s e) s e

  -- ---- the proof

  marked_exact : ReadsExactly symbols clipped_proof (marked_proof symbols)
  marked_exact ts v left s e =
      first_exact symbols (map clipped_line) clipped_proof (proof_section symbols) (λ lines. counted a_mark_row (length lines.1) 1 (length lines.0) lines.1 >>= λ marks. Ok (record { lines = lines.0; marks = marks.0 }, marks.1)) ts v left (section_exact symbols) (λ lines us x s e.
      first_exact symbols itself clipped_proof (counted a_mark_row (length us) 1 (length lines)) (λ marks. Ok (record { lines = lines; marks = marks.0 }, marks.1)) us v left (marks_pass (length us) 1 (length lines)) (λ marks us y s e.
      last_exact symbols clipped_proof (record { lines = lines; marks = marks }) v us left (λ i. record { lines = x i; marks = marks }) s e) s e) s e

  proof_exact : (o : Outcome) → ReadsExactly symbols clipped_proof (proof_behind o symbols)
  proof_exact outcome.Proof ts v left s e = marked_exact ts v left s e
  proof_exact outcome.SosEmpty ts v left s e = last_exact symbols clipped_proof no_proof v ts left refl s e
  proof_exact (outcome.GivenLimit n) ts v left s e = last_exact symbols clipped_proof no_proof v ts left refl s e
  proof_exact (outcome.KeptLimit n) ts v left s e = last_exact symbols clipped_proof no_proof v ts left refl s e
  proof_exact (outcome.WorkLimit n) ts v left s e = last_exact symbols clipped_proof no_proof v ts left refl s e

  -- ---- the whole

  abbrev with_proof : Heading → List (List VersionValue) → Turns → MarkedProof × List Token → Read RunValue
  with_proof h lists t p = the_heading (codes "end_of_run") p.1 >>= λ end. Ok (run_of_parts h lists t p.0, end.1)

  abbrev with_lists : Heading → List (List VersionValue) × List Token → Read RunValue
  with_lists h lists = turns symbols h.lists lists.1 >>= λ t. proof_behind t.0.outcome symbols t.1 >>= with_proof h lists.0 t.0

  whole_exact : ReadsExactly symbols clipped_run (run_section symbols)
  whole_exact ts v left s e =
      first_exact symbols itself clipped_run a_run_heading (λ h. version_lists symbols h.0.lists h.1 >>= with_lists h.0) ts v left heading_passes (λ h us y s e.
      first_exact symbols itself clipped_run (version_lists symbols h.lists) (with_lists h) us v left (lists_pass h.lists) (λ lists us y s e.
      first_exact symbols clipped_turns clipped_run (turns symbols h.lists) (λ t. proof_behind t.0.outcome symbols t.1 >>= with_proof h lists t.0) us v left (turns_exact h.lists) (λ t us x s e.
      first_exact symbols clipped_proof clipped_run (proof_behind t.outcome symbols) (with_proof h lists t) us v left (proof_exact t.outcome) (λ p us z s e.
      first_exact symbols itself clipped_run (the_heading (codes "end_of_run")) (λ end. Ok (run_of_parts h lists t p, end.1)) us v left (sentences_pass symbols (the_heading (codes "end_of_run")) (heading_sentence (codes "end_of_run"))) (λ u us y s e.
      last_exact symbols clipped_run (run_of_parts h lists t p) v us left (λ i. run_of_parts h lists (x i) (z i)) s e) s e) s e) s e) s e) s e

  -- a run text alone, of tokens at which no limit is passed
  pub run_exact : (ts : List Token) (run : RunValue) (left : List Token) → first_passed (text_fault_at text_bounds symbols) ts ≡ None → Gives (alone (run_section symbols ts)) run left → clipped_run run ≡ run
  run_exact ts run left none e =
      let b = both (run_section symbols ts) (λ r. elim r.1 [ [] ↦ Ok r | t ∷ tokens ↦ unexpected (t ∷ tokens) ]) run left e in
      let r = whole_exact ts b.value b.left (record { whole = []; start = at_first symbols ts none }) b.first in
      subst (λ run. clipped_run run ≡ run) (by (b.value, b.left) b.left b.second) r.exact
    where
      by : (found : RunValue × List Token) (us : List Token) → Gives (elim us [ [] ↦ Ok found | t ∷ tokens ↦ unexpected (t ∷ tokens) ]) run left → found.0 ≡ run
      by found [] e = (same found.0 run found.1 left e).value
      by found (t ∷ us) e = absurd cc
