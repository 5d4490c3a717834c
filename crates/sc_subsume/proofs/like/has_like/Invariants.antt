use Rattle.std.specs.List.{AllWithin}
use Rattle.sc_subsume.specs.Search.{AreLike}
use Rattle.sc_subsume.proofs.like.has_like.Given as goal

abbrev pub invariant-loop-m : goal.invariant-loop-m
invariant-loop-m l = AllWithin (λ m. ¬ AreLike l.l m) l.all 0 l.m-index
