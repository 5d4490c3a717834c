use Rattle.std.proofs.Common.{◌≡◌, ◌++◌, take}
use Rattle.std.specs.Prelude.{flat_map}
use Rattle.sc_text_run_rules.specs.RunText.{given_row}
use Rattle.sc_text_print.proofs.turns.given_rows.Given as goal

abbrev pub invariant-loop-g : goal.invariant-loop-g
invariant-loop-g l = l.text.items ≡ l.initial.text.items ++ flat_map given_row (take l.g-index l.rows)
