use Rattle.std.proofs.Common.{◌≡◌, ◌++◌, [], ◌∷◌}
use Rattle.sc_term.specs.Clause.{width}
use Rattle.sc_cells.specs.Listing.{in_turn, instance_with}
use Rattle.sc_cells.proofs.listing.push_instances.Given as goal

abbrev pub invariant-loop-number : goal.invariant-loop-number
invariant-loop-number l = l.instances ≡ l.initial.instances ++ in_turn (λ number. instance_with l.size l.place (width l.clause) number ∷ []) l.number
