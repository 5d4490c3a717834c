use Rattle.std.proofs.Common.{◌≡◌, take}
use Rattle.sc_text_run_section.specs.Filling.{filled}
use Rattle.sc_text_run_section.proofs.fill.fill.Given as goal

-- the first tables are filled
abbrev pub invariant-loop-i : goal.invariant-loop-i
invariant-loop-i l = l.tables ≡ record l.fn.tables { tables = filled l.fn.tables.tables (take l.i l.rows) }
