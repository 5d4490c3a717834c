use Rattle.std.proofs.Common.{length}
use Rattle.sc_subsume.specs.Search.{literals, IsSearch, left_to_try}
use Rattle.sc_subsume.proofs.search.goes_into.Given as goal

abbrev pub invariant-loop-bound : goal.invariant-loop-bound
invariant-loop-bound l = IsSearch (literals l.c) l.d l.bound.items l.choices l.next

abbrev pub decreases-loop-bound : goal.decreases-loop-bound
decreases-loop-bound l = left_to_try (length l.d) (length (literals l.c)) l.choices l.next
