-- A run as it is written, with the entries of tables in place of the tables.
use Rattle.std.specs.Prelude.{ℕ, List, map}
use Rattle.sc_term.specs.declared.Line.{Line}
use Rattle.sc_interp.specs.Structure.{Structure}
use Rattle.sc_interp.specs.declared.table.Table.{Table}
use Rattle.sc_core_rules.specs.declared.row.GivenRow.{GivenRow}
use Rattle.sc_core_rules.specs.declared.row.KeptRow.{KeptRow}
use Rattle.sc_core_rules.specs.declared.row.Outcome.{Outcome}
use Rattle.sc_text_run_rules.specs.declared.run.FinderEnd.{FinderEnd}
use Rattle.sc_text_run_rules.specs.declared.run.MarkRow.{MarkRow}
use Rattle.sc_text_run_rules.specs.declared.run.VersionText.{VersionText}
use Rattle.sc_text_run_rules.specs.declared.run.RunText.{RunText}

-- a version, with the entries of each symbol other than `=` in the order of the symbols
pub record VersionValue : Type 0 where
  pub size : ℕ
  pub entries : List (List ℕ)
  pub claims : List ℕ

-- a run: the versions of each finder, what was given and kept, how all ended, and the proof with its marks
pub record RunValue : Type 0 where
  pub ratio : ℕ
  pub lists : List (List VersionValue)
  pub given : List GivenRow
  pub kept : List KeptRow
  pub ends : List FinderEnd
  pub outcome : Outcome
  pub proof : List Line
  pub marks : List MarkRow

-- the entries of each table
abbrev pub entries_of : Structure → List (List ℕ)
entries_of t = map (λ (table : Table). table.entries) t.tables

-- the version with the entries of its tables
abbrev pub version_value : VersionText → VersionValue
version_value v = record { size = v.size; entries = entries_of v.tables; claims = v.claims }

-- the run with the entries of its versions' tables
abbrev pub run_value : RunText → RunValue
run_value run =
    record {
      ratio = run.ratio;
      lists = map (map version_value) run.lists;
      given = run.given;
      kept = run.kept;
      ends = run.ends;
      outcome = run.outcome;
      proof = run.proof;
      marks = run.marks;
    }
