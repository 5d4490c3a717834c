-- The productions of the rows of a run text that tell its turns and its end.
use Rattle.std.specs.Prelude.{ℕ, ◌+◌, true, false, List, length, Ok, codes, nat_le}
use Rattle.sc_term.specs.declared.symbol.Symbol.{Symbol}
use Rattle.sc_core_rules.specs.declared.row.GivenRow.{GivenRow}
use Rattle.sc_core_rules.specs.declared.row.KeptRow.{KeptRow}
use Rattle.sc_core_rules.specs.declared.row.Outcome.{Outcome}
use Rattle.sc_core_rules.specs.declared.row.Outcome.TheVariants as outcome
use Rattle.sc_text_run_rules.specs.declared.run.FinderEnd.{FinderEnd}
use Rattle.sc_text_run_rules.specs.declared.run.MarkRow.{MarkRow}
use Rattle.sc_input_rules.specs.declared.token.Token.{Token}
use Rattle.sc_input_rules.specs.declared.token.Sign.TheVariants.{Stop, Colon}
use Rattle.sc_input_rules.specs.Token.{same_text}
use Rattle.sc_input_rules.specs.Reader.{Read, ◌>>=◌, unexpected, the_sign, the_word, a_word}
use Rattle.sc_text_rules.specs.ProofGrammar.{text_clause}
use Rattle.sc_text_run_rules.specs.RowWords.{a_number_in, a_row_number, the_row_number, a_cause, a_truth, an_end, a_version_name, numbers, rows_of}

-- ---- given and kept rows

-- the given row of a turn: turn, clause, cause, the guide's name, the mark in it and the length of each seen list
abbrev pub a_given_row : ℕ → List Token → Read GivenRow
a_given_row turn tokens = do
  begin ← the_word (codes "given") tokens
  t ← the_row_number turn begin.1
  n ← a_row_number t.1
  cause ← a_cause n.1
  name ← a_version_name cause.1
  truth ← a_truth name.1
  lengths ← numbers truth.1
  Ok (record { turn = t.0; number = n.0; cause = cause.0; name = name.0; truth = truth.0; lengths = lengths.0 }, lengths.1)

-- the turns rise by one from the one given
abbrev pub given_rows : ℕ → List Token → Read (List GivenRow)
given_rows turn tokens = rows_of (codes "given") a_given_row (λ t g. t + 1) (length tokens) turn tokens

-- a kept clause, of that number or a greater one: number, turn, weight, a colon and the clause
abbrev pub a_kept_row : List Symbol → ℕ → List Token → Read KeptRow
a_kept_row symbols least tokens = do
  begin ← the_word (codes "kept") tokens
  number ← a_number_in (λ n. nat_le least n) 0 4294967295 begin.1
  turn ← a_row_number number.1
  weight ← a_row_number turn.1
  colon ← the_sign Colon weight.1
  c ← text_clause symbols colon.1
  Ok (record { number = number.0; turn = turn.0; weight = weight.0; clause = c.0 }, c.1)

-- the numbers rise; `least` is the least that may stand first
abbrev pub kept_rows : List Symbol → ℕ → List Token → Read (List KeptRow)
kept_rows symbols least tokens = rows_of (codes "kept") (a_kept_row symbols) (λ l k. k.number + 1) (length tokens) least tokens

-- ---- the end

-- how the finder of that number ended
abbrev pub a_finder_row : ℕ → List Token → Read FinderEnd
a_finder_row finder tokens = do
  begin ← the_word (codes "finder") tokens
  f ← the_row_number finder begin.1
  e ← an_end f.1
  stop ← the_sign Stop e.1
  Ok (e.0, stop.1)

-- an outcome that has a number
abbrev pub with_number : (ℕ → Outcome) → List Token → Read Outcome
with_number ended tokens = a_row_number tokens >>= λ n. Ok (ended n.0, n.1)

-- the outcome whose word was read, and what stands behind it
abbrev pub outcome_named : List ℕ → List Token → List Token → Read Outcome
outcome_named name behind tokens =
    elim (same_text name (codes "proof")) [
      | true ↦ Ok (outcome.Proof, behind)
      | false ↦
          elim (same_text name (codes "sos_empty")) [
            | true ↦ Ok (outcome.SosEmpty, behind)
            | false ↦
                elim (same_text name (codes "given_limit")) [
                  | true ↦ with_number (λ n. outcome.GivenLimit n) behind
                  | false ↦
                      elim (same_text name (codes "kept_limit")) [
                        | true ↦ with_number (λ n. outcome.KeptLimit n) behind
                        | false ↦
                            elim (same_text name (codes "work_limit")) [ true ↦ with_number (λ n. outcome.WorkLimit n) behind | false ↦ unexpected tokens ]
                      ]
                ]
          ]
    ]

abbrev pub an_outcome : List Token → Read Outcome
an_outcome tokens = a_word tokens >>= λ name. outcome_named name.0.text name.1 tokens

-- how the run ended
abbrev pub an_end_row : List Token → Read Outcome
an_end_row tokens = do
  begin ← the_word (codes "end") tokens
  ended ← an_outcome begin.1
  stop ← the_sign Stop ended.1
  Ok (ended.0, stop.1)

-- the mark of the line of that number: the version's name and the mark in it
abbrev pub a_mark_row : ℕ → List Token → Read MarkRow
a_mark_row line tokens = do
  begin ← the_word (codes "mark") tokens
  k ← the_row_number line begin.1
  name ← a_version_name k.1
  truth ← a_truth name.1
  stop ← the_sign Stop truth.1
  Ok (record { line = k.0; name = name.0; truth = truth.0 }, stop.1)
