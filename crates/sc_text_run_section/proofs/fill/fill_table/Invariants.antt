use Rattle.std.proofs.Common.{◌≡◌}
use Rattle.sc_term.specs.Numbering.{numbered}
use Rattle.sc_text_run_section.specs.Filling.{with_first}
use Rattle.sc_text_run_section.proofs.fill.fill_table.Given as goal

-- the first entries stand in the table
abbrev pub invariant-loop-place : goal.invariant-loop-place
invariant-loop-place l = l.tables ≡ with_first (numbered l.fn.tables.tables l.symbol.0) l.fn.tables l.symbol l.place l.entries
