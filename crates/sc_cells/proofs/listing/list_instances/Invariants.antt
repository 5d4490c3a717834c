use Rattle.std.proofs.Common.{◌≡◌}
use Rattle.sc_cells.specs.Listing.{in_turn, instances_at}
use Rattle.sc_cells.proofs.listing.list_instances.Given as goal

abbrev pub invariant-loop-place : goal.invariant-loop-place
invariant-loop-place l = l.instances ≡ in_turn (instances_at l.clauses l.size) l.place
