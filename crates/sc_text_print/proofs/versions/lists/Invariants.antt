use Rattle.std.proofs.Common.{◌≡◌, ◌++◌, map, take}
use Rattle.sc_text_run_rules.specs.RunText.{lists_rows}
use Rattle.sc_text_run_rules.specs.RunValue.{version_value}
use Rattle.sc_text_print.proofs.versions.lists.Given as goal

abbrev pub invariant-loop-i : goal.invariant-loop-i
invariant-loop-i l = l.text.items ≡ l.initial.text.items ++ lists_rows l.sig 1 (map (map version_value) (take l.i l.lists))
