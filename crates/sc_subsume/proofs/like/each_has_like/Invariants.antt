use Rattle.std.specs.List.{AllWithin, Any}
use Rattle.sc_subsume.specs.Search.{AreLike}
use Rattle.sc_subsume.proofs.like.each_has_like.Given as goal

abbrev pub invariant-loop-l : goal.invariant-loop-l
invariant-loop-l l = AllWithin (λ one. Any (AreLike one) l.d) l.c 0 l.l-index
