use Rattle.std.proofs.Common.{◌≡◌}
use Rattle.sc_subsume.specs.Search.{HitsNone}
use Rattle.sc_subsume.proofs.matching.next_place.Given as goal

abbrev pub invariant-loop-place : goal.invariant-loop-place
invariant-loop-place l = record {
  kept : l.bound.items ≡ l.initial.bound.items;
  none : HitsNone l.initial.bound.items l.pattern l.targets l.first l.place;
}
