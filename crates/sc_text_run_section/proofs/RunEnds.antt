-- What a run text leaves is an end of what it was given.
use Rattle.std.proofs.Common.{ℕ, zero, suc, ◌+◌, ◌-◌, ◌^◌, Bool, true, false, ◌&&◌, List, [], ◌∷◌, length, Ok, Err}
use Rattle.std.specs.Prelude.{codes, ◌==◌, nat_le, if◌then◌else◌}
use Rattle.std.specs.List.{list_all}
use Rattle.std.specs.Str.Parse.{digits_value}
use Rattle.sc_term.specs.declared.symbol.Symbol.{Symbol}
use Rattle.sc_interp.specs.Structure.{values_below, entry_count}
use Rattle.sc_interp.specs.declared.plain.Truth.TheVariants as truth
use Rattle.sc_core_rules.specs.declared.row.Cause.TheVariants as cause
use Rattle.sc_core_rules.specs.declared.row.Outcome.{Outcome}
use Rattle.sc_core_rules.specs.declared.row.Outcome.TheVariants as outcome
use Rattle.sc_text_run_rules.specs.declared.run.FinderEnd.TheVariants as end
use Rattle.sc_input_rules.specs.declared.fault.InputKind.TheVariants.{OutOfRange, TooMany}
use Rattle.sc_input_rules.specs.declared.token.Token.{Token}
use Rattle.sc_input_rules.specs.declared.token.Sign.TheVariants.{Stop, Colon}
use Rattle.sc_input_rules.specs.Token.{same_text}
use Rattle.sc_input_rules.specs.Tokens.{is_digit}
use Rattle.sc_input_rules.specs.Reader.{Read, ◌>>=◌, unexpected, the_sign, the_word, a_word, repeated}
use Rattle.sc_input_rules.specs.ProblemGrammar.{next_is_word}
use Rattle.sc_input_rules.proofs.Ends.{IsEnd, Leaves, LeavesEnd, all_left, in_turn, behind, either, the_sign-end, a_word-end, the_word-end, repeated-end}
use Rattle.sc_text_rules.specs.ProofGrammar.{text_clause, the_heading, proof_section, alone}
use Rattle.sc_text_section.proofs.SectionEnds.{one_then, text_clause-end, the_heading-end, proof_section-end}
use Rattle.sc_text_run_rules.specs.ModelText.{role_word, without_equality}
use Rattle.sc_text_run_rules.specs.RunText.{cause_word, truth_word, end_word}
use Rattle.sc_text_run_rules.specs.RunValue.{RunValue}
use Rattle.sc_text_run_rules.specs.RowWords.{is_in_range, ranged, a_number_in, a_number_from, a_row_number, the_row_number, no_digits, numbers, counted, rows_of, one_of, a_cause, a_truth, an_end, a_version_name}
use Rattle.sc_text_run_rules.specs.VersionGrammar.{NextVersion, a_size, a_version_row, an_entry, a_table, tables, claims, version_behind, behind_version, a_version, versions}
use Rattle.sc_text_run_rules.specs.RowGrammar.{a_given_row, given_rows, a_kept_row, kept_rows, a_finder_row, with_number, outcome_named, an_outcome, an_end_row, a_mark_row}
use Rattle.sc_text_run_rules.specs.RunSection.{a_counted_row, a_run_heading, version_lists, turns, marked_proof, proof_behind, run_section}

-- ---- numbers

number_in-end : (test : ℕ → Bool) (low high : ℕ) → LeavesEnd (a_number_in test low high)
number_in-end test low high ts =
    in_turn ts (a_word ts) _ (a_word-end ts)
    (λ w e. either ts (list_all is_digit w.0.text && test (digits_value 10 w.0.text)) (ranged low high w.0.text w.1 ts) (unexpected ts)
    (either ts (is_in_range low high w.0.text) (Ok (digits_value 10 w.0.text, w.1)) (Err (record { left = ts; kind = OutOfRange })) e (all_left ts)) (all_left ts))

number_from-end : (low high : ℕ) → LeavesEnd (a_number_from low high)
number_from-end low high = number_in-end (λ n. true) low high

row_number-end : LeavesEnd a_row_number
row_number-end = number_from-end 0 4294967295

the_row_number-end : (n : ℕ) → LeavesEnd (the_row_number n)
the_row_number-end n = number_in-end (λ m. m == n) 0 4294967295

numbers-end : LeavesEnd numbers
numbers-end ts =
    one_then ts ts (repeated no_digits a_row_number (length ts)) _ (repeated-end no_digits a_row_number (length ts) row_number-end) (all_left ts) (λ ns e.
    one_then ts ns.1 (the_sign Stop) _ (the_sign-end Stop) e (λ s e'. e'))

-- ---- several

counted-end : {A : Type 0} (one : ℕ → List Token → Read A) (n first count : ℕ) → ((k : ℕ) → LeavesEnd (one k)) → LeavesEnd (counted one n first count)
counted-end one zero first zero h ts = all_left ts
counted-end one zero first (suc m) h ts = all_left ts
counted-end one (suc n) first zero h ts = all_left ts
counted-end one (suc n) first (suc m) h ts =
    one_then ts ts (one first) _ (h first) (all_left ts) (λ x e. one_then ts x.1 (counted one n (first + 1) m) _ (counted-end one n (first + 1) m h) e (λ xs e'. e'))

rows_of-end : {A S : Type 0} (word : List ℕ) (one : S → List Token → Read A) (moved : S → A → S) (n : ℕ) (s : S) → ((s : S) → LeavesEnd (one s)) → LeavesEnd (rows_of word one moved n s)
rows_of-end word one moved zero s h ts = all_left ts
rows_of-end word one moved (suc n) s h ts =
    either ts (next_is_word word ts) (one s ts >>= λ a. rows_of word one moved n (moved s a.0) a.1 >>= λ others. Ok (a.0 ∷ others.0, others.1)) (Ok ([], ts))
    (one_then ts ts (one s) _ (h s) (all_left ts) (λ a e. one_then ts a.1 (rows_of word one moved n (moved s a.0)) _ (rows_of-end word one moved n (moved s a.0) h) e (λ others e'. e'))) (all_left ts)

-- ---- words

one_of-end : {A : Type 0} (word_of : A → List ℕ) (values : List A) → LeavesEnd (one_of word_of values)
one_of-end word_of [] ts = all_left ts
one_of-end word_of (a ∷ others) ts =
    either ts (next_is_word (word_of a) ts) (the_word (word_of a) ts >>= λ w. Ok (a, w.1)) (one_of word_of others ts)
    (one_then ts ts (the_word (word_of a)) _ (the_word-end (word_of a)) (all_left ts) (λ w e. e)) (one_of-end word_of others ts)

cause-end : LeavesEnd a_cause
cause-end = one_of-end cause_word (cause.Age ∷ cause.False ∷ cause.Weight ∷ [])

truth-end : LeavesEnd a_truth
truth-end = one_of-end truth_word (truth.True ∷ truth.False ∷ truth.Wide ∷ [])

an_end-end : LeavesEnd an_end
an_end-end = one_of-end end_word (end.Done ∷ end.Stopped ∷ end.Wide ∷ end.Memory ∷ [])

version_name-end : LeavesEnd a_version_name
version_name-end ts = one_then ts ts a_row_number _ row_number-end (all_left ts) (λ f e. one_then ts f.1 a_row_number _ row_number-end e (λ k e'. e'))

-- ---- versions

size-end : (symbols : List Symbol) → LeavesEnd (a_size symbols)
size-end symbols ts =
    one_then ts ts (a_number_from 1 8) _ (number_from-end 1 8) (all_left ts) (λ size e.
    either ts (nat_le (entry_count symbols size.0) 1048576) (Ok size) (Err (record { left = ts; kind = TooMany })) e (all_left ts))

version_row-end : (symbols : List Symbol) (lists : ℕ) (next : NextVersion) → LeavesEnd (a_version_row symbols lists next)
version_row-end symbols lists next ts =
    one_then ts ts (the_word (codes "version")) _ (the_word-end (codes "version")) (all_left ts) (λ w e.
    one_then ts w.1 (a_number_in (λ n. nat_le next.finder n && nat_le n lists) 0 4294967295) _ (number_in-end (λ n. nat_le next.finder n && nat_le n lists) 0 4294967295) e (λ f e.
    one_then ts f.1 (the_row_number (if f.0 == next.finder then next.place else 0)) _ (the_row_number-end (if f.0 == next.finder then next.place else 0)) e (λ k e.
    one_then ts k.1 (a_size symbols) _ (size-end symbols) e (λ size e.
    one_then ts size.1 (the_sign Stop) _ (the_sign-end Stop) e (λ stop e. e)))))

table-end : (size : ℕ) (s : Symbol) → LeavesEnd (a_table size s)
table-end size s ts =
    one_then ts ts (the_word (role_word s.role)) _ (the_word-end (role_word s.role)) (all_left ts) (λ role e.
    one_then ts role.1 (the_word s.name) _ (the_word-end s.name) e (λ name e.
    one_then ts name.1 (the_row_number s.arity) _ (the_row_number-end s.arity) e (λ arity e.
    one_then ts arity.1 (the_sign Colon) _ (the_sign-end Colon) e (λ colon e.
    one_then ts colon.1 (counted (λ i. an_entry s.role size) (length colon.1) 0 (size ^ s.arity)) _
    (counted-end (λ i. an_entry s.role size) (length colon.1) 0 (size ^ s.arity) (λ i. number_from-end 0 (values_below s.role size - 1))) e (λ entries e.
    one_then ts entries.1 (the_sign Stop) _ (the_sign-end Stop) e (λ stop e. e))))))

tables-end : (size : ℕ) (symbols : List Symbol) → LeavesEnd (tables size symbols)
tables-end size [] ts = all_left ts
tables-end size (s ∷ symbols) ts =
    one_then ts ts (a_table size s) _ (table-end size s) (all_left ts) (λ entries e. one_then ts entries.1 (tables size symbols) _ (tables-end size symbols) e (λ others e'. e'))

claims-end : LeavesEnd claims
claims-end ts = one_then ts ts (the_word (codes "claims")) _ (the_word-end (codes "claims")) (all_left ts) (λ w e. behind numbers ts w.1 numbers-end e)

version_behind-end : (symbols : List Symbol) (size : ℕ) → LeavesEnd (version_behind symbols size)
version_behind-end symbols size ts =
    one_then ts ts (tables size (without_equality symbols)) _ (tables-end size (without_equality symbols)) (all_left ts) (λ entries e. one_then ts entries.1 claims _ claims-end e (λ ns e'. e'))

version-end : (symbols : List Symbol) (lists : ℕ) (next : NextVersion) → LeavesEnd (a_version symbols lists next)
version-end symbols lists next ts =
    one_then ts ts (a_version_row symbols lists next) _ (version_row-end symbols lists next) (all_left ts) (λ row e.
    one_then ts row.1 (version_behind symbols row.0.size) _ (version_behind-end symbols row.0.size) e (λ v e'. e'))

lists-end : (symbols : List Symbol) (lists : ℕ) → LeavesEnd (version_lists symbols lists)
lists-end symbols lists ts =
    one_then ts ts (versions symbols lists (record { finder = 1; place = 0 })) _
    (λ us. rows_of-end (codes "version") (a_version symbols lists) behind_version (length us) (record { finder = 1; place = 0 }) (version-end symbols lists) us) (all_left ts) (λ vs e. e)

-- ---- turns

given_row-end : (turn : ℕ) → LeavesEnd (a_given_row turn)
given_row-end turn ts =
    one_then ts ts (the_word (codes "given")) _ (the_word-end (codes "given")) (all_left ts) (λ w e.
    one_then ts w.1 (the_row_number turn) _ (the_row_number-end turn) e (λ t e.
    one_then ts t.1 a_row_number _ row_number-end e (λ n e.
    one_then ts n.1 a_cause _ cause-end e (λ c e.
    one_then ts c.1 a_version_name _ version_name-end e (λ name e.
    one_then ts name.1 a_truth _ truth-end e (λ truth e.
    one_then ts truth.1 numbers _ numbers-end e (λ lengths e. e)))))))

kept_row-end : (symbols : List Symbol) (least : ℕ) → LeavesEnd (a_kept_row symbols least)
kept_row-end symbols least ts =
    one_then ts ts (the_word (codes "kept")) _ (the_word-end (codes "kept")) (all_left ts) (λ w e.
    one_then ts w.1 (a_number_in (λ n. nat_le least n) 0 4294967295) _ (number_in-end (λ n. nat_le least n) 0 4294967295) e (λ number e.
    one_then ts number.1 a_row_number _ row_number-end e (λ turn e.
    one_then ts turn.1 a_row_number _ row_number-end e (λ weight e.
    one_then ts weight.1 (the_sign Colon) _ (the_sign-end Colon) e (λ colon e.
    one_then ts colon.1 (text_clause symbols) _ (text_clause-end symbols) e (λ c e. e))))))

finder_row-end : (finder : ℕ) → LeavesEnd (a_finder_row finder)
finder_row-end finder ts =
    one_then ts ts (the_word (codes "finder")) _ (the_word-end (codes "finder")) (all_left ts) (λ w e.
    one_then ts w.1 (the_row_number finder) _ (the_row_number-end finder) e (λ f e.
    one_then ts f.1 an_end _ an_end-end e (λ x e.
    one_then ts x.1 (the_sign Stop) _ (the_sign-end Stop) e (λ stop e. e))))

with_number-end : (ended : ℕ → Outcome) → LeavesEnd (with_number ended)
with_number-end ended ts = one_then ts ts a_row_number _ row_number-end (all_left ts) (λ n e. e)

module _ (name : List ℕ) (ts rest : List Token) (e : IsEnd ts rest) where
  named : (word : List ℕ) (p : Read Outcome) (other : Read Outcome) → Leaves ts p → Leaves ts other → Leaves ts (elim (same_text name word) [ true ↦ p | false ↦ other ])
  named word p other h k = either ts (same_text name word) p other h k

  numbered : (ended : ℕ → Outcome) → Leaves ts (with_number ended rest)
  numbered ended = behind (with_number ended) ts rest (with_number-end ended) e

  outcome_named-end : Leaves ts (outcome_named name rest ts)
  outcome_named-end =
      named (codes "proof") (Ok (outcome.Proof, rest)) _ e
      (named (codes "sos_empty") (Ok (outcome.SosEmpty, rest)) _ e
      (named (codes "given_limit") (with_number (λ n. outcome.GivenLimit n) rest) _ (numbered (λ n. outcome.GivenLimit n))
      (named (codes "kept_limit") (with_number (λ n. outcome.KeptLimit n) rest) _ (numbered (λ n. outcome.KeptLimit n))
      (named (codes "work_limit") (with_number (λ n. outcome.WorkLimit n) rest) (unexpected ts) (numbered (λ n. outcome.WorkLimit n)) (all_left ts)))))

outcome-end : LeavesEnd an_outcome
outcome-end ts = one_then ts ts a_word _ a_word-end (all_left ts) (λ name e. outcome_named-end name.0.text ts name.1 e)

end_row-end : LeavesEnd an_end_row
end_row-end ts =
    one_then ts ts (the_word (codes "end")) _ (the_word-end (codes "end")) (all_left ts) (λ w e.
    one_then ts w.1 an_outcome _ outcome-end e (λ ended e.
    one_then ts ended.1 (the_sign Stop) _ (the_sign-end Stop) e (λ stop e. e)))

turns-end : (symbols : List Symbol) (lists : ℕ) → LeavesEnd (turns symbols lists)
turns-end symbols lists ts =
    one_then ts ts (given_rows 1) _ (λ us. rows_of-end (codes "given") a_given_row (λ t g. t + 1) (length us) 1 given_row-end us) (all_left ts) (λ given e.
    one_then ts given.1 (kept_rows symbols 0) _ (λ us. rows_of-end (codes "kept") (a_kept_row symbols) (λ l k. k.number + 1) (length us) 0 (kept_row-end symbols) us) e (λ kept e.
    one_then ts kept.1 (counted a_finder_row (length kept.1) 1 lists) _ (counted-end a_finder_row (length kept.1) 1 lists finder_row-end) e (λ ends e.
    one_then ts ends.1 an_end_row _ end_row-end e (λ ended e. e))))

mark_row-end : (line : ℕ) → LeavesEnd (a_mark_row line)
mark_row-end line ts =
    one_then ts ts (the_word (codes "mark")) _ (the_word-end (codes "mark")) (all_left ts) (λ w e.
    one_then ts w.1 (the_row_number line) _ (the_row_number-end line) e (λ k e.
    one_then ts k.1 a_version_name _ version_name-end e (λ name e.
    one_then ts name.1 a_truth _ truth-end e (λ truth e.
    one_then ts truth.1 (the_sign Stop) _ (the_sign-end Stop) e (λ stop e. e)))))

-- ---- the whole

marked_proof-end : (symbols : List Symbol) → LeavesEnd (marked_proof symbols)
marked_proof-end symbols ts =
    one_then ts ts (proof_section symbols) _ (proof_section-end symbols) (all_left ts) (λ lines e.
    one_then ts lines.1 (counted a_mark_row (length lines.1) 1 (length lines.0)) _ (counted-end a_mark_row (length lines.1) 1 (length lines.0) mark_row-end) e (λ marks e. e))

proof_behind-end : (o : Outcome) (symbols : List Symbol) → LeavesEnd (proof_behind o symbols)
proof_behind-end outcome.Proof symbols ts = marked_proof-end symbols ts
proof_behind-end outcome.SosEmpty symbols ts = all_left ts
proof_behind-end (outcome.GivenLimit n) symbols ts = all_left ts
proof_behind-end (outcome.KeptLimit n) symbols ts = all_left ts
proof_behind-end (outcome.WorkLimit n) symbols ts = all_left ts

counted_row-end : (name : List ℕ) (low high : ℕ) → LeavesEnd (a_counted_row name low high)
counted_row-end name low high ts =
    one_then ts ts (the_word name) _ (the_word-end name) (all_left ts) (λ w e.
    one_then ts w.1 (a_number_from low high) _ (number_from-end low high) e (λ n e.
    one_then ts n.1 (the_sign Stop) _ (the_sign-end Stop) e (λ stop e. e)))

heading-end : LeavesEnd a_run_heading
heading-end ts =
    one_then ts ts (the_heading (codes "run")) _ (the_heading-end (codes "run")) (all_left ts) (λ w e.
    one_then ts w.1 (a_counted_row (codes "lists") 1 8) _ (counted_row-end (codes "lists") 1 8) e (λ lists e.
    one_then ts lists.1 (a_counted_row (codes "ratio") 1 1001) _ (counted_row-end (codes "ratio") 1 1001) e (λ ratio e. e)))

run_section-end : (symbols : List Symbol) → LeavesEnd (run_section symbols)
run_section-end symbols ts =
    one_then ts ts a_run_heading _ heading-end (all_left ts) (λ h e.
    one_then ts h.1 (version_lists symbols h.0.lists) _ (lists-end symbols h.0.lists) e (λ lists e.
    one_then ts lists.1 (turns symbols h.0.lists) _ (turns-end symbols h.0.lists) e (λ t e.
    one_then ts t.1 (proof_behind t.0.outcome symbols) _ (proof_behind-end t.0.outcome symbols) e (λ p e.
    one_then ts p.1 (the_heading (codes "end_of_run")) _ (the_heading-end (codes "end_of_run")) e (λ end e. e)))))

nothing_behind-end : (whole : List Token) (run : RunValue) (left : List Token) → IsEnd whole left → Leaves whole (alone (Ok (run, left)))
nothing_behind-end whole run [] e = e
nothing_behind-end whole run (t ∷ ts) e = e

pub run-end : (symbols : List Symbol) → LeavesEnd (λ tokens. alone (run_section symbols tokens))
run-end symbols ts = in_turn ts (run_section symbols ts) _ (run_section-end symbols ts) (λ r e. nothing_behind-end ts r.0 r.1 e)
