-- What code reads, as the productions say it.
use Rattle.std.specs.Prelude.{ℕ, List, [], ◌∷◌, ◌++◌, ◌+◌, map, get_or, slice_set}
use Rattle.sc_term.specs.declared.symbol.Symbol.{Symbol}
use Rattle.sc_core_rules.specs.declared.row.KeptRow.{KeptRow}
use Rattle.sc_input_rules.specs.declared.token.Token.{Token}
use Rattle.sc_input_rules.specs.Reader.{Read}
use Rattle.sc_text_section.specs.Clipped.{clipped_clause, clipped_line, seen_by}
use Rattle.sc_text_run_rules.specs.RunValue.{VersionValue, RunValue, version_value}
use Rattle.sc_text_run_rules.specs.VersionGrammar as of
use Rattle.sc_text_run_rules.specs.RowGrammar as rows
use Rattle.sc_text_run_rules.specs.RunSection as whole
use Rattle.sc_text_run_section.specs.declared.version.Next.{Next}
use Rattle.sc_text_run_section.specs.declared.version.VersionRow.{VersionRow}
use Rattle.sc_text_run_section.specs.declared.version.PlacedVersion.{PlacedVersion}
use Rattle.sc_text_run_section.specs.declared.run.Heading.{Heading}
use Rattle.sc_text_run_section.specs.declared.turns.Turns.{Turns}
use Rattle.sc_text_run_section.specs.declared.run.MarkedProof.{MarkedProof}

-- ---- as records of the productions

abbrev pub next_of : Next → of.NextVersion
next_of n = record { finder = n.finder; place = n.place }

abbrev pub row_of : VersionRow → of.VersionRow
row_of r = record { finder = r.finder; place = r.place; size = r.tables.size }

abbrev pub placed_of : PlacedVersion → of.PlacedVersion
placed_of v = record { finder = v.finder; place = v.place; version = version_value v.version }

abbrev pub heading_of : Heading → whole.Heading
heading_of h = record { lists = h.lists; ratio = h.ratio }

abbrev pub turns_of : Turns → whole.Turns
turns_of t = record { given = t.given; kept = t.kept; ends = t.ends; outcome = t.outcome }

abbrev pub proof_of : MarkedProof → whole.MarkedProof
proof_of p = record { lines = p.lines; marks = p.marks }

-- ---- clauses whose variables are clipped

-- a kept row with its clause so
abbrev pub clipped_kept : KeptRow → KeptRow
clipped_kept k = record k { clause = clipped_clause k.clause }

-- a kept row that is read, so
abbrev pub clipped_kept_row : List Symbol → ℕ → List Token → Read KeptRow
clipped_kept_row symbols least tokens = seen_by clipped_kept (rows.a_kept_row symbols least tokens)

-- kept rows, proofs and runs with their clauses and lines so
abbrev pub clipped_turns : whole.Turns → whole.Turns
clipped_turns t = record t { kept = map clipped_kept t.kept }

abbrev pub clipped_proof : whole.MarkedProof → whole.MarkedProof
clipped_proof p = record p { lines = map clipped_line p.lines }

abbrev pub clipped_run : RunValue → RunValue
clipped_run run = record run { kept = map clipped_kept run.kept; proof = map clipped_line run.proof }

-- ---- versions by finder

-- lists, the first that of the finder given, each with its versions behind it
abbrev pub lists_behind : ℕ → List (List VersionValue) → List of.PlacedVersion → List (List VersionValue)
lists_behind finder [] vs = []
lists_behind finder (l ∷ ls) vs = (l ++ of.of_finder finder vs) ∷ lists_behind (finder + 1) ls vs

-- the version behind those of the list at a place
abbrev pub with_version : ℕ → VersionValue → List (List VersionValue) → List (List VersionValue)
with_version at v ls = slice_set ls at (get_or ls at [] ++ v ∷ [])
