-- The production of a whole run text.
use Rattle.std.specs.Prelude.{ℕ, List, [], length, Ok, codes}
use Rattle.sc_term.specs.declared.Line.{Line}
use Rattle.sc_term.specs.declared.symbol.Symbol.{Symbol}
use Rattle.sc_core_rules.specs.declared.row.GivenRow.{GivenRow}
use Rattle.sc_core_rules.specs.declared.row.KeptRow.{KeptRow}
use Rattle.sc_core_rules.specs.declared.row.Outcome.{Outcome}
use Rattle.sc_core_rules.specs.declared.row.Outcome.TheVariants as outcome
use Rattle.sc_text_run_rules.specs.declared.run.FinderEnd.{FinderEnd}
use Rattle.sc_text_run_rules.specs.declared.run.MarkRow.{MarkRow}
use Rattle.sc_input_rules.specs.declared.token.Token.{Token}
use Rattle.sc_input_rules.specs.declared.token.Sign.TheVariants.{Stop}
use Rattle.sc_input_rules.specs.Reader.{Read, ◌>>=◌, the_sign, the_word}
use Rattle.sc_text_rules.specs.ProofGrammar.{the_heading, proof_section}
use Rattle.sc_text_run_rules.specs.RunValue.{VersionValue, RunValue}
use Rattle.sc_text_run_rules.specs.RowWords.{a_number_from, counted}
use Rattle.sc_text_run_rules.specs.VersionGrammar.{versions, by_finder}
use Rattle.sc_text_run_rules.specs.RowGrammar.{given_rows, kept_rows, a_finder_row, an_end_row, a_mark_row}

-- ---- the heading

-- a word, a number from low to high, and a full stop
abbrev pub a_counted_row : List ℕ → ℕ → ℕ → List Token → Read ℕ
a_counted_row name low high tokens = do
  w ← the_word name tokens
  n ← a_number_from low high w.1
  stop ← the_sign Stop n.1
  Ok (n.0, stop.1)

-- the number of lists, and in every how many turns the oldest clause is given
pub record Heading : Type 0 where
  pub lists : ℕ
  pub ratio : ℕ

abbrev pub a_run_heading : List Token → Read Heading
a_run_heading tokens = do
  begin ← the_heading (codes "run") tokens
  lists ← a_counted_row (codes "lists") 1 8 begin.1
  ratio ← a_counted_row (codes "ratio") 1 1001 lists.1
  Ok (record { lists = lists.0; ratio = ratio.0 }, ratio.1)

-- ---- the rows

-- the versions of each of as many lists
abbrev pub version_lists : List Symbol → ℕ → List Token → Read (List (List VersionValue))
version_lists symbols lists tokens = versions symbols lists (record { finder = 1; place = 0 }) tokens >>= λ vs. Ok (by_finder lists 1 vs.0, vs.1)

-- what the rows behind the versions tell
pub record Turns : Type 0 where
  pub given : List GivenRow
  pub kept : List KeptRow
  pub ends : List FinderEnd
  pub outcome : Outcome

-- given rows, kept rows, a finder row for each list, and the outcome
abbrev pub turns : List Symbol → ℕ → List Token → Read Turns
turns symbols lists tokens = do
  given ← given_rows 1 tokens
  kept ← kept_rows symbols 0 given.1
  ends ← counted a_finder_row (length kept.1) 1 lists kept.1
  ended ← an_end_row ends.1
  Ok (record { given = given.0; kept = kept.0; ends = ends.0; outcome = ended.0 }, ended.1)

-- ---- the proof

-- the lines of a proof and their marks
pub record MarkedProof : Type 0 where
  pub lines : List Line
  pub marks : List MarkRow

-- a proof section and a mark for each of its lines
abbrev pub marked_proof : List Symbol → List Token → Read MarkedProof
marked_proof symbols tokens = do
  lines ← proof_section symbols tokens
  marks ← counted a_mark_row (length lines.1) 1 (length lines.0) lines.1
  Ok (record { lines = lines.0; marks = marks.0 }, marks.1)

-- no lines
abbrev pub no_proof : MarkedProof
no_proof = record { lines = []; marks = [] }

-- these behind the outcome of a proof, nothing behind another
abbrev pub proof_behind : Outcome → List Symbol → List Token → Read MarkedProof
proof_behind outcome.Proof symbols tokens = marked_proof symbols tokens
proof_behind outcome.SosEmpty symbols tokens = Ok (no_proof, tokens)
proof_behind (outcome.GivenLimit n) symbols tokens = Ok (no_proof, tokens)
proof_behind (outcome.KeptLimit n) symbols tokens = Ok (no_proof, tokens)
proof_behind (outcome.WorkLimit n) symbols tokens = Ok (no_proof, tokens)

-- ---- the whole

-- the run of these parts
abbrev pub run_of_parts : Heading → List (List VersionValue) → Turns → MarkedProof → RunValue
run_of_parts h lists t p =
    record {
      ratio = h.ratio;
      lists = lists;
      given = t.given;
      kept = t.kept;
      ends = t.ends;
      outcome = t.outcome;
      proof = p.lines;
      marks = p.marks;
    }

-- all rows in their order
abbrev pub run_section : List Symbol → List Token → Read RunValue
run_section symbols tokens = do
  h ← a_run_heading tokens
  lists ← version_lists symbols h.0.lists h.1
  t ← turns symbols h.0.lists lists.1
  p ← proof_behind t.0.outcome symbols t.1
  end ← the_heading (codes "end_of_run") p.1
  Ok (run_of_parts h.0 lists.0 t.0 p.0, end.1)
