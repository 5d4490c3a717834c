use Rattle.std.proofs.Common.{◌≡◌, ◌++◌, map, take}
use Rattle.sc_text_rules.specs.ClauseText.{joined_by, term_text}
use Rattle.sc_text_print.proofs.term.+term.Given as goal

abbrev pub invariant-joined_terms-loop-i : goal.invariant-joined_terms-loop-i
invariant-joined_terms-loop-i l = l.text.items ≡ l.initial.text.items ++ joined_by l.between (map (term_text l.sig) (take l.i l.terms))
