use Rattle.std.proofs.Common.{map, take}
use Rattle.std.specs.List.{AllByRecursion}
use Rattle.sc_term.specs.Term.{joined, term_variables}
use Rattle.sc_demod.specs.Counting.{OccursNoMore}
use Rattle.sc_demod.proofs.count.+comparing.Given as goal

abbrev pub invariant-all_no_more-loop-term : goal.invariant-all_no_more-loop-term
invariant-all_no_more-loop-term l = AllByRecursion (OccursNoMore l.right l.left) (joined (map term_variables (take l.term-index l.terms)))
