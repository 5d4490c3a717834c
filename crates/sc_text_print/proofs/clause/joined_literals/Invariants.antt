use Rattle.std.proofs.Common.{◌≡◌, ◌++◌, map, take}
use Rattle.std.specs.Prelude.{codes}
use Rattle.sc_text_rules.specs.ClauseText.{joined_by, literal_text}
use Rattle.sc_text_print.proofs.clause.joined_literals.Given as goal

abbrev pub invariant-loop-i : goal.invariant-loop-i
invariant-loop-i l = l.text.items ≡ l.initial.text.items ++ joined_by (codes " | ") (map (literal_text l.sig) (take l.i l.literals))
