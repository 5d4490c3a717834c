use Rattle.std.proofs.Common.{◌≡◌, ◌++◌, take}
use Rattle.sc_text_rules.specs.ProofText.{lines_text}
use Rattle.sc_text_print.proofs.proof.numbered_lines.Given as goal

abbrev pub invariant-loop-i : goal.invariant-loop-i
invariant-loop-i l = l.text.items ≡ l.initial.text.items ++ lines_text l.sig 1 (take l.i l.lines)
