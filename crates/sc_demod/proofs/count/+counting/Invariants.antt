use Rattle.std.proofs.Common.{◌≡◌, ◌-◌, ◌^◌, map, min, take, count_by, nat_eq}
use Rattle.sc_term.specs.Term.{joined, term_variables}
use Rattle.sc_demod.proofs.count.+counting.Given as goal

abbrev pub invariant-occurrences_in-loop-term : goal.invariant-occurrences_in-loop-term
invariant-occurrences_in-loop-term l = l.total ≡ min (count_by (nat_eq l.n) (joined (map term_variables (take l.term-index l.terms)))) (2 ^ 32 - 1)
