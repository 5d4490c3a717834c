use Rattle.std.proofs.Common.{◌+◌}
use Rattle.sc_unify.specs.Bindings.{bindings}
use Rattle.sc_unify.specs.Search.{terms}
use Rattle.sc_unify.proofs.OccursCheck.{IsSearched, total_weight, unseen}
use Rattle.sc_unify.proofs.occurs.occurs.Given as goal

abbrev pub invariant-loop-next : goal.invariant-loop-next
invariant-loop-next l = IsSearched (bindings l.bound) l.variable l.term l.seen.items (terms l.todo.items)

abbrev pub decreases-loop-next : goal.decreases-loop-next
decreases-loop-next l = total_weight (terms l.todo.items) + unseen (bindings l.bound) l.seen.items
