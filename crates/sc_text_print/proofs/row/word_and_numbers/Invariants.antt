use Rattle.std.proofs.Common.{◌≡◌, ◌∷◌, ◌++◌, map, take}
use Rattle.std.specs.Prelude.{decimal}
use Rattle.sc_text_rules.specs.ProofText.{words}
use Rattle.sc_text_print.proofs.row.word_and_numbers.Given as goal

abbrev pub invariant-loop-n : goal.invariant-loop-n
invariant-loop-n l = l.text.items ≡ l.fn.text.items ++ words (l.word ∷ map decimal (take l.n-index l.numbers))
