use Rattle.std.proofs.Common.{◌≡◌, take}
use Rattle.sc_resolve.specs.ByNumber.{seen}
use Rattle.sc_resolve.proofs.order.by_number.Given as goal

abbrev pub invariant-loop-clause : goal.invariant-loop-clause
invariant-loop-clause l = seen l.ordered.items ≡ take l.clause-index l.clauses
