-- The marks that a prover keeps.
use Rattle.std.specs.Prelude.{◌≡◌, ◌⊎◌, List, Contains, Some}
use Rattle.sc_term.specs.declared.Numbered.{Numbered}
use Rattle.sc_term.specs.Numbering.{numbered}
use Rattle.sc_input_rules.specs.Problem.{Stated}
use Rattle.sc_core_rules.specs.Book.{Book, numbered_clauses}
use Rattle.sc_core_rules.specs.Selection.{Seen}
use Rattle.sc_core_laws.specs.TrueRows.{IsNamed}
use Rattle.sc_mark.specs.Marked.{Marked, HasMark}
use Rattle.sc_guide.specs.Guided.{Guided}

-- the version of the marks is the opening one, or stands at its name in what is seen, and each marked clause is the one
-- that has its number
pub record AreRight (problem : Stated) (seen : Seen) (book : Book) (marks : Marked) : Type 0 where
  pub named : IsNamed problem seen marks.name marks.version
  pub stand : (p : Numbered) → Contains marks.clauses p → numbered (numbered_clauses problem book) p.number ≡ Some p.clause

-- the clauses are marked too, but those whose numbers were marked
pub record AreMarked (old new : Marked) (ps : List Numbered) : Type 0 where
  pub name : new.name ≡ old.name
  pub version : new.version ≡ old.version
  pub kept : (p : Numbered) → Contains old.clauses p → Contains new.clauses p
  pub only : (p : Numbered) → Contains new.clauses p → Contains old.clauses p ⊎ Contains ps p
  pub all : (p : Numbered) → Contains ps p → HasMark new p.number

-- the marks, but in the guide
abbrev pub in_guide : Marked → Guided → Marked
in_guide marks guide = record marks { name = guide.name; version = guide.version }
