use Rattle.std.proofs.Common.{◌≡◌, ◌+◌, ◌-◌, length}
use Rattle.std.specs.Prelude.{codes}
use Rattle.sc_input_grammar.specs.Behind.{behind}
use Rattle.sc_text_run_rules.specs.RowWords.{rows_of}
use Rattle.sc_text_run_rules.specs.RowGrammar.{a_given_row, given_rows}
use Rattle.sc_text_run_section.proofs.turns.given_rows.Given as goal

-- what was read, and then what is read of the rest, is what is read of all
abbrev pub invariant-loop-earlier : goal.invariant-loop-earlier
invariant-loop-earlier l =
    behind l.front (rows_of (codes "given") a_given_row (λ t g. t + 1) (length l.tokens - l.earlier) (l.earlier + 1) l.rest) ≡ given_rows 1 l.tokens
