use Rattle.std.proofs.Common.{◌≡◌, ◌≤◌, ◌+◌, ◌-◌, ◌^◌, length}
use Rattle.std.specs.Prelude.{codes}
use Rattle.sc_input_grammar.specs.Behind.{behind}
use Rattle.sc_text_run_rules.specs.RowWords.{rows_of}
use Rattle.sc_text_run_section.specs.Seen.{clipped_kept_row}
use Rattle.sc_text_run_section.proofs.turns.kept_rows.Given as goal

-- what was read, and then what is read of the rest, is what is read of all
abbrev pub invariant-loop : goal.invariant-loop
invariant-loop l = record {
  read :
      behind l.front (rows_of (codes "kept") (clipped_kept_row l.sig) (λ m k. k.number + 1) (length l.tokens - l.counter) l.least l.rest)
      ≡ rows_of (codes "kept") (clipped_kept_row l.sig) (λ m k. k.number + 1) (length l.tokens) 0 l.tokens;
  small : l.least ≤ 2 ^ 32;
}
