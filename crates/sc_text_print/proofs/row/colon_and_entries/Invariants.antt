use Rattle.std.proofs.Common.{◌≡◌, ◌∷◌, ◌++◌, map, take}
use Rattle.std.specs.Prelude.{codes, decimal}
use Rattle.sc_text_rules.specs.ProofText.{words}
use Rattle.sc_text_print.proofs.row.colon_and_entries.Given as goal

abbrev pub invariant-loop-e : goal.invariant-loop-e
invariant-loop-e l = l.text.items ≡ l.fn.text.items ++ words (codes ":" ∷ map decimal (take l.e-index l.entries))
