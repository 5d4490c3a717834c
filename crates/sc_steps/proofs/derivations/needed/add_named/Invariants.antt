use Rattle.std.proofs.Common.{◌≡◌, ℕ, ◌||◌, take}
use Rattle.std.specs.Ordering.{nat_cmp}
use Rattle.std.specs.BTreeSet.{contains}
use Rattle.sc_steps.specs.Walk.{names}
use Rattle.sc_steps.proofs.derivations.needed.add_named.Given as goal

abbrev pub invariant-loop-line : goal.invariant-loop-line
invariant-loop-line l = (m : ℕ) → contains nat_cmp l.pending m ≡ (contains nat_cmp l.fn.pending m || names (take l.line-index l.lines) m)
