-- The first tokens decide how a run text is read.
use Rattle.std.proofs.Common.{refl, ℕ, ◌+◌, ◌≤◌, true, false, List, [], ◌∷◌, ◌++◌, length, Ok, arith}
use Rattle.std.specs.Prelude.{codes, nat_le}
use Rattle.sc_term.specs.declared.symbol.Symbol.{Symbol}
use Rattle.sc_interp.specs.declared.plain.Truth.{Truth}
use Rattle.sc_interp.specs.declared.plain.VersionName.{VersionName}
use Rattle.sc_core_rules.specs.declared.row.Cause.{Cause}
use Rattle.sc_core_rules.specs.declared.row.GivenRow.{GivenRow}
use Rattle.sc_core_rules.specs.declared.row.KeptRow.{KeptRow}
use Rattle.sc_core_rules.specs.declared.row.Outcome.{Outcome}
use Rattle.sc_core_rules.specs.declared.row.Outcome.TheVariants as outcome
use Rattle.sc_text_run_rules.specs.declared.run.FinderEnd.{FinderEnd}
use Rattle.sc_text_run_rules.specs.declared.run.MarkRow.{MarkRow}
use Rattle.sc_text_run_rules.specs.RunValue.{VersionValue, RunValue}
use Rattle.sc_input_rules.specs.declared.token.Token.{Token}
use Rattle.sc_input_rules.specs.declared.token.Token.TheVariants.{Word, Punctuation, Refused}
use Rattle.sc_input_rules.specs.declared.token.Sign.TheVariants.{Stop, Colon}
use Rattle.sc_input_rules.specs.Token.{same_text}
use Rattle.sc_input_rules.specs.Reader.{Read, unexpected, a_word, the_sign, the_word}
use Rattle.sc_input_rules.proofs.Shrinking.{LeavesAtMost, Shrinks, in_turn, either_way, within, a_word-shrinks}
use Rattle.sc_input_rules.proofs.Prefix.{Agrees, Good, good_from, good_sign, not_allowed, one_of_two}
use Rattle.sc_input_rules.proofs.PrefixInTurn.{Takes, bound, good_pure}
use Rattle.sc_input_rules.proofs.PrefixOfClauses.{good_map, good_then}
use Rattle.sc_input_rules.proofs.PrefixOfItems.{good_the_word}
use Rattle.sc_text_rules.specs.ProofGrammar.{text_clause, the_heading, proof_section, alone}
use Rattle.sc_text_section.proofs.PrefixOfSteps.{good_text_clause}
use Rattle.sc_text_section.proofs.PrefixOfSections.{good_heading, good_proof_section}
use Rattle.sc_text_run_rules.specs.RowWords.{a_number_in, a_number_from, a_row_number, the_row_number, numbers, counted, a_cause, a_truth, an_end, a_version_name}
use Rattle.sc_text_run_rules.specs.RowGrammar.{a_given_row, given_rows, a_kept_row, kept_rows, a_finder_row, with_number, outcome_named, an_outcome, an_end_row, a_mark_row}
use Rattle.sc_text_run_rules.specs.RunSection.{Heading, Turns, MarkedProof, a_counted_row, a_run_heading, version_lists, turns, marked_proof, no_proof, proof_behind, run_of_parts, run_section}
use Rattle.sc_text_run_section.proofs.PrefixOfRows.{good_in, good_from_to, good_row_number, good_the_row_number, takes_first, takes_word, good_numbers, good_all_counted, good_all_rows, good_cause, good_truth, good_an_end, good_version_name}
use Rattle.sc_text_run_section.proofs.PrefixOfVersions.{good_lists}

-- ---- given and kept rows

abbrev given_6 : ℕ → ℕ → Cause → VersionName → Truth → List Token → Read GivenRow
given_6 t n c name truth ts = bound (numbers ts) (λ lengths ts. Ok (record { turn = t; number = n; cause = c; name = name; truth = truth; lengths = lengths }, ts))

abbrev given_5 : ℕ → ℕ → Cause → VersionName → List Token → Read GivenRow
given_5 t n c name ts = bound (a_truth ts) (given_6 t n c name)

abbrev given_4 : ℕ → ℕ → Cause → List Token → Read GivenRow
given_4 t n c ts = bound (a_version_name ts) (given_5 t n c)

abbrev given_3 : ℕ → ℕ → List Token → Read GivenRow
given_3 t n ts = bound (a_cause ts) (given_4 t n)

abbrev given_2 : ℕ → List Token → Read GivenRow
given_2 t ts = bound (a_row_number ts) (given_3 t)

abbrev given_1 : ℕ → List Token → Read GivenRow
given_1 turn ts = bound (the_row_number turn ts) given_2

good_given_1 : (n m turn : ℕ) → Good n m (given_1 turn) (given_1 turn)
good_given_1 n m turn =
    good_then n m (the_row_number turn) given_2 (good_the_row_number n m turn) (λ t.
    good_then n m a_row_number (given_3 t) (good_row_number n m) (λ k.
    good_then n m a_cause (given_4 t k) (good_cause n m) (λ c.
    good_then n m a_version_name (given_5 t k c) (good_version_name n m) (λ name.
    good_then n m a_truth (given_6 t k c name) (good_truth n m) (λ truth.
    good_map n m numbers (λ lengths. record { turn = t; number = k; cause = c; name = name; truth = truth; lengths = lengths }) (good_numbers n m))))))

good_given : (turn n m : ℕ) → Good n m (a_given_row turn) (a_given_row turn)
good_given turn n m = good_then n m (the_word (codes "given")) (λ u. given_1 turn) (good_the_word n m (codes "given")) (λ u. good_given_1 n m turn)

takes_given : (turn : ℕ) → Takes 1 (a_given_row turn)
takes_given turn = takes_first (the_word (codes "given")) (λ u. given_1 turn) (takes_word (codes "given")) (λ u. (good_given_1 0 0 turn).short)

abbrev kept_5 : ℕ → ℕ → ℕ → List Symbol → List Token → Read KeptRow
kept_5 number turn weight symbols ts = bound (text_clause symbols ts) (λ c ts. Ok (record { number = number; turn = turn; weight = weight; clause = c }, ts))

abbrev kept_4 : List Symbol → ℕ → ℕ → ℕ → List Token → Read KeptRow
kept_4 symbols number turn weight ts = bound (the_sign Colon ts) (λ u. kept_5 number turn weight symbols)

abbrev kept_3 : List Symbol → ℕ → ℕ → List Token → Read KeptRow
kept_3 symbols number turn ts = bound (a_row_number ts) (kept_4 symbols number turn)

abbrev kept_2 : List Symbol → ℕ → List Token → Read KeptRow
kept_2 symbols number ts = bound (a_row_number ts) (kept_3 symbols number)

abbrev kept_1 : List Symbol → ℕ → List Token → Read KeptRow
kept_1 symbols least ts = bound (a_number_in (λ k. nat_le least k) 0 4294967295 ts) (kept_2 symbols)

good_kept_1 : (n m : ℕ) (symbols : List Symbol) (least : ℕ) → Good n m (kept_1 symbols least) (kept_1 symbols least)
good_kept_1 n m symbols least =
    good_then n m (a_number_in (λ k. nat_le least k) 0 4294967295) (kept_2 symbols) (good_in n m (λ k. nat_le least k) 0 4294967295) (λ number.
    good_then n m a_row_number (kept_3 symbols number) (good_row_number n m) (λ turn.
    good_then n m a_row_number (kept_4 symbols number turn) (good_row_number n m) (λ weight.
    good_then n m (the_sign Colon) (λ u. kept_5 number turn weight symbols) (good_sign n m Colon) (λ u.
    good_map n m (text_clause symbols) (λ c. record { number = number; turn = turn; weight = weight; clause = c }) (good_text_clause n m symbols)))))

good_kept : (symbols : List Symbol) (least n m : ℕ) → Good n m (a_kept_row symbols least) (a_kept_row symbols least)
good_kept symbols least n m = good_then n m (the_word (codes "kept")) (λ u. kept_1 symbols least) (good_the_word n m (codes "kept")) (λ u. good_kept_1 n m symbols least)

takes_kept : (symbols : List Symbol) (least : ℕ) → Takes 1 (a_kept_row symbols least)
takes_kept symbols least = takes_first (the_word (codes "kept")) (λ u. kept_1 symbols least) (takes_word (codes "kept")) (λ u. (good_kept_1 0 0 symbols least).short)

-- ---- the end

abbrev ended : {A : Type 0} → A → List Token → Read A
ended a ts = bound (the_sign Stop ts) (λ u ts. Ok (a, ts))

good_ended : {A : Type 0} (n m : ℕ) (a : A) → Good n m (ended a) (ended a)
good_ended n m a = good_map n m (the_sign Stop) (λ u. a) (good_sign n m Stop)

abbrev finder_1 : ℕ → List Token → Read FinderEnd
finder_1 finder ts = bound (the_row_number finder ts) (λ f ts. bound (an_end ts) ended)

good_finder_1 : (n m finder : ℕ) → Good n m (finder_1 finder) (finder_1 finder)
good_finder_1 n m finder =
    good_then n m (the_row_number finder) (λ f ts. bound (an_end ts) ended) (good_the_row_number n m finder) (λ f.
    good_then n m an_end ended (good_an_end n m) (λ e. good_ended n m e))

good_finder : (finder n m : ℕ) → Good n m (a_finder_row finder) (a_finder_row finder)
good_finder finder n m = good_then n m (the_word (codes "finder")) (λ u. finder_1 finder) (good_the_word n m (codes "finder")) (λ u. good_finder_1 n m finder)

takes_finder : (finder : ℕ) → Takes 1 (a_finder_row finder)
takes_finder finder = takes_first (the_word (codes "finder")) (λ u. finder_1 finder) (takes_word (codes "finder")) (λ u. (good_finder_1 0 0 finder).short)

abbrev mark_2 : ℕ → VersionName → List Token → Read MarkRow
mark_2 k name ts = bound (a_truth ts) (λ truth. ended (record { line = k; name = name; truth = truth }))

abbrev mark_1 : ℕ → List Token → Read MarkRow
mark_1 line ts = bound (the_row_number line ts) (λ k ts. bound (a_version_name ts) (mark_2 k))

good_mark_1 : (n m line : ℕ) → Good n m (mark_1 line) (mark_1 line)
good_mark_1 n m line =
    good_then n m (the_row_number line) (λ k ts. bound (a_version_name ts) (mark_2 k)) (good_the_row_number n m line) (λ k.
    good_then n m a_version_name (mark_2 k) (good_version_name n m) (λ name.
    good_then n m a_truth (λ truth. ended (record { line = k; name = name; truth = truth })) (good_truth n m) (λ truth.
    good_ended n m (record { line = k; name = name; truth = truth }))))

good_mark : (line n m : ℕ) → Good n m (a_mark_row line) (a_mark_row line)
good_mark line n m = good_then n m (the_word (codes "mark")) (λ u. mark_1 line) (good_the_word n m (codes "mark")) (λ u. good_mark_1 n m line)

takes_mark : (line : ℕ) → Takes 1 (a_mark_row line)
takes_mark line = takes_first (the_word (codes "mark")) (λ u. mark_1 line) (takes_word (codes "mark")) (λ u. (good_mark_1 0 0 line).short)

good_with_number : (n m : ℕ) (make : ℕ → Outcome) → Good n m (with_number make) (with_number make)
good_with_number n m make = good_map n m a_row_number make (good_row_number n m)

-- A word that names no outcome fails at itself, so what follows from it is said with the tokens from it on.

module _ (name : List ℕ) (whole rest : List Token) (n : ℕ) (all : length whole ≤ n) (le : length rest ≤ n) where
  named_leaves : (word : List ℕ) (p : List Token → Read Outcome) (other : Read Outcome) → Shrinks p → LeavesAtMost n other → LeavesAtMost n (elim (same_text name word) [ true ↦ p rest | false ↦ other ])
  named_leaves word p other h k = either_way n (same_text name word) (p rest) other (within p n rest h le) k

  outcome-leaves : LeavesAtMost n (outcome_named name rest whole)
  outcome-leaves =
      named_leaves (codes "proof") (λ ts. Ok (outcome.Proof, ts)) _ (good_pure 0 0 outcome.Proof).short
      (named_leaves (codes "sos_empty") (λ ts. Ok (outcome.SosEmpty, ts)) _ (good_pure 0 0 outcome.SosEmpty).short
      (named_leaves (codes "given_limit") (with_number (λ k. outcome.GivenLimit k)) _ (good_with_number 0 0 (λ k. outcome.GivenLimit k)).short
      (named_leaves (codes "kept_limit") (with_number (λ k. outcome.KeptLimit k)) _ (good_with_number 0 0 (λ k. outcome.KeptLimit k)).short
      (named_leaves (codes "work_limit") (with_number (λ k. outcome.WorkLimit k)) (unexpected whole) (good_with_number 0 0 (λ k. outcome.WorkLimit k)).short all))))

outcome-shrinks : Shrinks an_outcome
outcome-shrinks ts = in_turn (length ts) (a_word ts) _ (a_word-shrinks ts) (λ name le. outcome-leaves name.0.text ts name.1 (length ts) (omega arith) le)

module _ (n m at : ℕ) (name : List ℕ) (front more : List Token) (e : length (Word at name ∷ front) ≤ n) (e' : length (Word at name ∷ (front ++ more)) ≤ m) where
  named_agrees : (word : List ℕ) (p : List Token → Read Outcome) (other other' : Read Outcome) → Good n m p p → Agrees more other other'
      → Agrees more (elim (same_text name word) [ true ↦ p front | false ↦ other ]) (elim (same_text name word) [ true ↦ p (front ++ more) | false ↦ other' ])
  named_agrees word p other other' g k = one_of_two more (same_text name word) (p front) (p (front ++ more)) other other' (g.agrees front more (omega (arith, e)) (omega (arith, e'))) k

  outcome_named-agrees : Agrees more (outcome_named name front (Word at name ∷ front)) (outcome_named name (front ++ more) (Word at name ∷ (front ++ more)))
  outcome_named-agrees =
      named_agrees (codes "proof") (λ ts. Ok (outcome.Proof, ts)) _ _ (good_pure n m outcome.Proof)
      (named_agrees (codes "sos_empty") (λ ts. Ok (outcome.SosEmpty, ts)) _ _ (good_pure n m outcome.SosEmpty)
      (named_agrees (codes "given_limit") (with_number (λ k. outcome.GivenLimit k)) _ _ (good_with_number n m (λ k. outcome.GivenLimit k))
      (named_agrees (codes "kept_limit") (with_number (λ k. outcome.KeptLimit k)) _ _ (good_with_number n m (λ k. outcome.KeptLimit k))
      (named_agrees (codes "work_limit") (with_number (λ k. outcome.WorkLimit k)) (unexpected (Word at name ∷ front)) (unexpected (Word at name ∷ (front ++ more))) (good_with_number n m (λ k. outcome.WorkLimit k)) refl))))

outcome_agrees : (n m : ℕ) (t : Token) (front more : List Token) → length (t ∷ front) ≤ n → length (t ∷ (front ++ more)) ≤ m → Agrees more (an_outcome (t ∷ front)) (an_outcome (t ∷ (front ++ more)))
outcome_agrees n m (Word at name) front more e e' = outcome_named-agrees n m at name front more e e'
outcome_agrees n m (Punctuation at s) front more e e' = refl
outcome_agrees n m (Refused at kind) front more e e' = refl

good_outcome : (n m : ℕ) → Good n m an_outcome an_outcome
good_outcome n m = good_from n m _ _ outcome-shrinks outcome-shrinks (λ t front more e e'. outcome_agrees n m t front more e e')

good_end_row : (n m : ℕ) → Good n m an_end_row an_end_row
good_end_row n m =
    good_then n m (the_word (codes "end")) (λ u ts. bound (an_outcome ts) ended) (good_the_word n m (codes "end")) (λ u.
    good_then n m an_outcome ended (good_outcome n m) (λ o. good_ended n m o))

-- ---- turns

abbrev turns_3 : List GivenRow → List KeptRow → List FinderEnd → List Token → Read Turns
turns_3 given kept ends ts = bound (an_end_row ts) (λ o ts. Ok (record { given = given; kept = kept; ends = ends; outcome = o }, ts))

abbrev finders_at : ℕ → List Token → Read (List FinderEnd)
finders_at lists ts = counted a_finder_row (length ts) 1 lists ts

abbrev turns_2 : ℕ → List GivenRow → List KeptRow → List Token → Read Turns
turns_2 lists given kept ts = bound (finders_at lists ts) (turns_3 given kept)

abbrev turns_1 : List Symbol → ℕ → List GivenRow → List Token → Read Turns
turns_1 symbols lists given ts = bound (kept_rows symbols 0 ts) (turns_2 lists given)

good_turns : (n m : ℕ) (symbols : List Symbol) (lists : ℕ) → Good n m (turns symbols lists) (turns symbols lists)
good_turns n m symbols lists =
    good_then n m (given_rows 1) (turns_1 symbols lists) (good_all_rows (codes "given") a_given_row (λ t g. t + 1) good_given takes_given n m 1) (λ given.
    good_then n m (kept_rows symbols 0) (turns_2 lists given) (good_all_rows (codes "kept") (a_kept_row symbols) (λ l k. k.number + 1) (good_kept symbols) (takes_kept symbols) n m 0) (λ kept.
    good_then n m (finders_at lists) (turns_3 given kept) (good_all_counted a_finder_row good_finder takes_finder n m 1 lists) (λ ends.
    good_map n m an_end_row (λ o. record { given = given; kept = kept; ends = ends; outcome = o }) (good_end_row n m))))

-- ---- the proof

abbrev marks_at : ℕ → List Token → Read (List MarkRow)
marks_at count ts = counted a_mark_row (length ts) 1 count ts

good_marked : (n m : ℕ) (symbols : List Symbol) → Good n m (marked_proof symbols) (marked_proof symbols)
good_marked n m symbols =
    good_then n m (proof_section symbols) (λ lines ts. bound (marks_at (length lines) ts) (λ marks ts. Ok (record { lines = lines; marks = marks }, ts))) (good_proof_section n m symbols) (λ lines.
    good_map n m (marks_at (length lines)) (λ marks. record { lines = lines; marks = marks }) (good_all_counted a_mark_row good_mark takes_mark n m 1 (length lines)))

good_proof_behind : (n m : ℕ) (o : Outcome) (symbols : List Symbol) → Good n m (proof_behind o symbols) (proof_behind o symbols)
good_proof_behind n m outcome.Proof symbols = good_marked n m symbols
good_proof_behind n m outcome.SosEmpty symbols = good_pure n m no_proof
good_proof_behind n m (outcome.GivenLimit k) symbols = good_pure n m no_proof
good_proof_behind n m (outcome.KeptLimit k) symbols = good_pure n m no_proof
good_proof_behind n m (outcome.WorkLimit k) symbols = good_pure n m no_proof

-- ---- the whole

good_counted_row : (n m : ℕ) (name : List ℕ) (low high : ℕ) → Good n m (a_counted_row name low high) (a_counted_row name low high)
good_counted_row n m name low high =
    good_then n m (the_word name) (λ u ts. bound (a_number_from low high ts) ended) (good_the_word n m name) (λ u.
    good_then n m (a_number_from low high) ended (good_from_to n m low high) (λ k. good_ended n m k))

abbrev heading_1 : ℕ → List Token → Read Heading
heading_1 lists ts = bound (a_counted_row (codes "ratio") 1 1001 ts) (λ ratio ts. Ok (record { lists = lists; ratio = ratio }, ts))

good_run_heading : (n m : ℕ) → Good n m a_run_heading a_run_heading
good_run_heading n m =
    good_then n m (the_heading (codes "run")) (λ u ts. bound (a_counted_row (codes "lists") 1 8 ts) heading_1) (good_heading n m (codes "run")) (λ u.
    good_then n m (a_counted_row (codes "lists") 1 8) heading_1 (good_counted_row n m (codes "lists") 1 8) (λ lists.
    good_map n m (a_counted_row (codes "ratio") 1 1001) (λ ratio. record { lists = lists; ratio = ratio }) (good_counted_row n m (codes "ratio") 1 1001)))

abbrev run_3 : Heading → List (List VersionValue) → Turns → MarkedProof → List Token → Read RunValue
run_3 h lists t p ts = bound (the_heading (codes "end_of_run") ts) (λ u ts. Ok (run_of_parts h lists t p, ts))

abbrev run_2 : List Symbol → Heading → List (List VersionValue) → Turns → List Token → Read RunValue
run_2 symbols h lists t ts = bound (proof_behind t.outcome symbols ts) (run_3 h lists t)

abbrev run_1 : List Symbol → Heading → List (List VersionValue) → List Token → Read RunValue
run_1 symbols h lists ts = bound (turns symbols h.lists ts) (run_2 symbols h lists)

abbrev run_0 : List Symbol → Heading → List Token → Read RunValue
run_0 symbols h ts = bound (version_lists symbols h.lists ts) (run_1 symbols h)

good_run_section : (n m : ℕ) (symbols : List Symbol) → Good n m (run_section symbols) (run_section symbols)
good_run_section n m symbols =
    good_then n m a_run_heading (run_0 symbols) (good_run_heading n m) (λ h.
    good_then n m (version_lists symbols h.lists) (run_1 symbols h) (good_lists n m symbols h.lists) (λ lists.
    good_then n m (turns symbols h.lists) (run_2 symbols h lists) (good_turns n m symbols h.lists) (λ t.
    good_then n m (proof_behind t.outcome symbols) (run_3 h lists t) (good_proof_behind n m t.outcome symbols) (λ p.
    good_map n m (the_heading (codes "end_of_run")) (λ u. run_of_parts h lists t p) (good_heading n m (codes "end_of_run"))))))

-- the value, where no token is left
abbrev at_the_end : RunValue → List Token → Read RunValue
at_the_end run ts = alone (Ok (run, ts))

good_end : (n m : ℕ) (run : RunValue) → Good n m (at_the_end run) (at_the_end run)
good_end n m run = good_from n m _ _ leaves leaves (λ t front more e e'. not_allowed t front more)
  where
    leaves : Shrinks (at_the_end run)
    leaves [] = omega arith
    leaves (t ∷ ts) = omega arith

pub good_run : (symbols : List Symbol) (n m : ℕ) → Good n m (λ tokens. alone (run_section symbols tokens)) (λ tokens. alone (run_section symbols tokens))
good_run symbols n m = good_then n m (run_section symbols) at_the_end (good_run_section n m symbols) (λ run. good_end n m run)
