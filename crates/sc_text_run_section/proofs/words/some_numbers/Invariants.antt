use Rattle.std.proofs.Common.{◌≡◌, ◌-◌, length}
use Rattle.sc_input_rules.specs.Reader.{repeated}
use Rattle.sc_input_grammar.specs.Behind.{behind}
use Rattle.sc_text_run_rules.specs.RowWords.{no_digits, a_row_number}
use Rattle.sc_text_run_section.proofs.words.some_numbers.Given as goal

-- what was read, and then what is read of the rest, is what is read of all
abbrev pub invariant-loop : goal.invariant-loop
invariant-loop l =
    behind l.front (repeated no_digits a_row_number (length l.tokens - l.counter) l.rest) ≡ repeated no_digits a_row_number (length l.tokens) l.tokens
