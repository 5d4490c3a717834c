use Rattle.std.proofs.Common.{◌≡◌, ◌++◌, take}
use Rattle.std.specs.Prelude.{flat_map}
use Rattle.sc_text_run_rules.specs.RunText.{kept_row}
use Rattle.sc_text_print.proofs.turns.kept_rows.Given as goal

abbrev pub invariant-loop-k : goal.invariant-loop-k
invariant-loop-k l = l.text.items ≡ l.initial.text.items ++ flat_map (kept_row l.sig) (take l.k-index l.rows)
