use Rattle.std.proofs.Common.{◌≡◌, ◌≤◌, ◌+◌, ◌-◌, length}
use Rattle.sc_input_grammar.specs.Behind.{behind}
use Rattle.sc_text_run_rules.specs.RowWords.{counted}
use Rattle.sc_text_run_rules.specs.RowGrammar.{a_mark_row}
use Rattle.sc_text_run_section.proofs.turns.mark_rows.Given as goal

-- what was read, and then what is read of the rest, is what is read of all
abbrev pub invariant-loop-earlier : goal.invariant-loop-earlier
invariant-loop-earlier l = record {
  read :
      behind l.front (counted a_mark_row (length l.tokens - l.earlier) (l.earlier + 1) (l.count - l.earlier) l.rest)
      ≡ counted a_mark_row (length l.tokens) 1 l.count l.tokens;
  within : l.earlier ≤ l.count;
}
