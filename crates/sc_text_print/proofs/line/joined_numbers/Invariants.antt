use Rattle.std.proofs.Common.{◌≡◌, ◌++◌, map, take}
use Rattle.std.specs.Prelude.{decimal}
use Rattle.sc_text_rules.specs.ClauseText.{joined_by}
use Rattle.sc_text_print.proofs.line.joined_numbers.Given as goal

abbrev pub invariant-loop-i : goal.invariant-loop-i
invariant-loop-i l = l.text.items ≡ l.initial.text.items ++ joined_by l.between (map decimal (take l.i l.numbers))
