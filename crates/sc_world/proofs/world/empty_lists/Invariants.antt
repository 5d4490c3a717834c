use Rattle.std.proofs.Common.{◌≡◌, [], replicate}
use Rattle.sc_world.proofs.world.empty_lists.Given as goal

abbrev pub invariant-loop-finder : goal.invariant-loop-finder
invariant-loop-finder l = l.lists.items ≡ replicate l._finder []
