use Rattle.std.proofs.Common.{◌≡◌, drop, take}
use Rattle.sc_input_grammar.specs.Behind.{behind}
use Rattle.sc_text_run_rules.specs.VersionGrammar.{tables}
use Rattle.sc_text_run_section.specs.Entries.{AreEntriesOf}
use Rattle.sc_text_run_section.proofs.table.read_tables.Given as goal

-- what was read, and then what is read of the rest, is what is read of all
abbrev pub invariant-loop-number : goal.invariant-loop-number
invariant-loop-number l = record {
  read : behind l.front (tables l.size (drop l.number l.sig) l.rest) ≡ tables l.size (drop 1 l.sig) l.tokens;
  whole : AreEntriesOf l.size (drop 1 (take l.number l.sig)) l.front;
}
