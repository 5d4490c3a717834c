use Rattle.std.proofs.Common.{◌≡◌, ◌++◌, take}
use Rattle.std.specs.Prelude.{flat_map}
use Rattle.sc_text_run_rules.specs.RunText.{mark_row}
use Rattle.sc_text_print.proofs.turns.mark_rows.Given as goal

abbrev pub invariant-loop-m : goal.invariant-loop-m
invariant-loop-m l = l.text.items ≡ l.initial.text.items ++ flat_map mark_row (take l.m-index l.marks)
