-- The text of a run.
use Rattle.std.specs.Prelude.{ℕ, ◌+◌, List, [], ◌∷◌, ◌++◌, map, length, codes, decimal, flat_map}
use Rattle.sc_term.specs.declared.Line.{Line}
use Rattle.sc_term.specs.declared.symbol.Symbol.{Symbol}
use Rattle.sc_core_rules.specs.declared.row.Cause.{Cause}
use Rattle.sc_core_rules.specs.declared.row.Cause.TheVariants as cause
use Rattle.sc_interp.specs.declared.plain.Truth.{Truth}
use Rattle.sc_interp.specs.declared.plain.Truth.TheVariants as truth
use Rattle.sc_interp.specs.declared.plain.VersionName.{VersionName}
use Rattle.sc_core_rules.specs.declared.row.GivenRow.{GivenRow}
use Rattle.sc_core_rules.specs.declared.row.KeptRow.{KeptRow}
use Rattle.sc_text_run_rules.specs.declared.run.FinderEnd.{FinderEnd}
use Rattle.sc_text_run_rules.specs.declared.run.FinderEnd.TheVariants as end
use Rattle.sc_core_rules.specs.declared.row.Outcome.{Outcome}
use Rattle.sc_core_rules.specs.declared.row.Outcome.TheVariants as outcome
use Rattle.sc_text_run_rules.specs.declared.run.MarkRow.{MarkRow}
use Rattle.sc_text_rules.specs.ClauseText.{clause_text}
use Rattle.sc_text_rules.specs.ProofText.{proof_text}
use Rattle.sc_text_run_rules.specs.ModelText.{row, table_rows, without_equality}
use Rattle.sc_text_run_rules.specs.RunValue.{VersionValue, RunValue}

-- ---- words

-- why a clause was given, as a word
abbrev pub cause_word : Cause → List ℕ
cause_word cause.Age = codes "age"
cause_word cause.False = codes "false"
cause_word cause.Weight = codes "weight"

-- a mark, as a word
abbrev pub truth_word : Truth → List ℕ
truth_word truth.True = codes "true"
truth_word truth.False = codes "false"
truth_word truth.Wide = codes "wide"

-- how a finder ended, as a word
abbrev pub end_word : FinderEnd → List ℕ
end_word end.Done = codes "done"
end_word end.Stopped = codes "stopped"
end_word end.Wide = codes "wide"
end_word end.Memory = codes "memory"

-- how the run ended, with its number, if it has one
abbrev pub outcome_words : Outcome → List (List ℕ)
outcome_words outcome.Proof = codes "proof" ∷ []
outcome_words outcome.SosEmpty = codes "sos_empty" ∷ []
outcome_words (outcome.GivenLimit n) = codes "given_limit" ∷ decimal n ∷ []
outcome_words (outcome.KeptLimit n) = codes "kept_limit" ∷ decimal n ∷ []
outcome_words (outcome.WorkLimit n) = codes "work_limit" ∷ decimal n ∷ []

-- finder and place of a version
abbrev pub name_words : VersionName → List (List ℕ)
name_words name = decimal name.finder ∷ decimal name.place ∷ []

-- ---- rows

-- the version of the finder at the place: its size, its tables and its claims
abbrev pub version_rows : List Symbol → ℕ → ℕ → VersionValue → List ℕ
version_rows symbols finder place v =
    row (codes "version" ∷ decimal finder ∷ decimal place ∷ decimal v.size ∷ [])
    ++ table_rows (without_equality symbols) v.entries ++ row (codes "claims" ∷ map decimal v.claims)

-- the versions of one finder, the first at the place given
abbrev pub list_rows : List Symbol → ℕ → ℕ → List VersionValue → List ℕ
list_rows symbols finder place [] = []
list_rows symbols finder place (v ∷ vs) = version_rows symbols finder place v ++ list_rows symbols finder (place + 1) vs

-- the lists, the first that of the finder given
abbrev pub lists_rows : List Symbol → ℕ → List (List VersionValue) → List ℕ
lists_rows symbols finder [] = []
lists_rows symbols finder (vs ∷ lists) = list_rows symbols finder 0 vs ++ lists_rows symbols (finder + 1) lists

-- turn, clause, cause, the guide's name, the mark in it and the length of each seen list
abbrev pub given_row : GivenRow → List ℕ
given_row g =
    row (codes "given" ∷ decimal g.turn ∷ decimal g.number ∷ cause_word g.cause ∷ name_words g.name ++ truth_word g.truth ∷ map decimal g.lengths)

-- number, turn, weight and clause
abbrev pub kept_row : List Symbol → KeptRow → List ℕ
kept_row symbols k =
    row (codes "kept" ∷ decimal k.number ∷ decimal k.turn ∷ decimal k.weight ∷ codes ":" ∷ clause_text symbols k.clause ∷ [])

-- how the finders ended, the first that with the number given
abbrev pub finder_rows : ℕ → List FinderEnd → List ℕ
finder_rows finder [] = []
finder_rows finder (e ∷ ends) = row (codes "finder" ∷ decimal finder ∷ end_word e ∷ []) ++ finder_rows (finder + 1) ends

-- line, the version's name and the mark in it
abbrev pub mark_row : MarkRow → List ℕ
mark_row m = row (codes "mark" ∷ decimal m.line ∷ name_words m.name ++ truth_word m.truth ∷ [])

-- the proof section and the marks of its lines, where the outcome is a proof
abbrev pub proof_part : List Symbol → Outcome → List Line → List MarkRow → List ℕ
proof_part symbols outcome.Proof lines marks = proof_text symbols lines ++ flat_map mark_row marks
proof_part symbols outcome.SosEmpty lines marks = []
proof_part symbols (outcome.GivenLimit n) lines marks = []
proof_part symbols (outcome.KeptLimit n) lines marks = []
proof_part symbols (outcome.WorkLimit n) lines marks = []

-- ---- the whole

-- all rows in their order
abbrev pub run_text : List Symbol → RunValue → List ℕ
run_text symbols run =
    row (codes "run" ∷ []) ++ row (codes "lists" ∷ decimal (length run.lists) ∷ []) ++ row (codes "ratio" ∷ decimal run.ratio ∷ [])
    ++ lists_rows symbols 1 run.lists ++ flat_map given_row run.given ++ flat_map (kept_row symbols) run.kept
    ++ finder_rows 1 run.ends ++ row (codes "end" ∷ outcome_words run.outcome)
    ++ proof_part symbols run.outcome run.proof run.marks ++ row (codes "end_of_run" ∷ [])
