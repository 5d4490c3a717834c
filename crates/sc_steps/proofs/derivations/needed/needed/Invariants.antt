use Rattle.std.proofs.Common.{◌+◌, get_or, reverse}
use Rattle.std.specs.Ordering.{nat_cmp}
use Rattle.std.specs.BTreeSet.{contains}
use Rattle.sc_steps.proofs.Walking.{Walk}
use Rattle.sc_steps.proofs.derivations.needed.needed.Given as goal

abbrev pub invariant-loop-n : goal.invariant-loop-n
invariant-loop-n l = Walk l.inputs l.derived l.goal (reverse l.found.items) (contains nat_cmp l.pending)

-- what is found next is below what was found last
abbrev pub decreases-loop-n : goal.decreases-loop-n
decreases-loop-n l = get_or (reverse l.found.items) 0 (l.goal + 1)
