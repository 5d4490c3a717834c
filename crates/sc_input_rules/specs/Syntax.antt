-- Sides, literals and clauses as they are written, before symbols and variables have numbers.
use Rattle.std.specs.Prelude.{List}
use Rattle.sc_input_rules.specs.declared.written.Occurrence.{Occurrence}
use Rattle.sc_input_rules.specs.declared.written.WrittenLiteral.{WrittenLiteral}

-- A side is its names in the order of the text. An equation is `=` with two arguments.
abbrev pub Side : Type 0
Side = List Occurrence

abbrev pub WrittenClause : Type 0
WrittenClause = List WrittenLiteral
