use Rattle.std.proofs.Common.{◌≡◌, ◌++◌, take}
use Rattle.sc_text_run_rules.specs.RunText.{finder_rows}
use Rattle.sc_text_print.proofs.turns.finder_rows.Given as goal

abbrev pub invariant-loop-i : goal.invariant-loop-i
invariant-loop-i l = l.text.items ≡ l.initial.text.items ++ finder_rows 1 (take l.i l.ends)
