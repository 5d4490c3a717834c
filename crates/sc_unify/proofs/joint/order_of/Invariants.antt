use Rattle.std.proofs.Common.{◌≡◌, [], map, take}
use Rattle.sc_term.specs.Term.{joined}
use Rattle.sc_term.specs.Clause.{variables}
use Rattle.sc_term.specs.Substitution.{clause_under}
use Rattle.sc_term.specs.Occurrence.{noted}
use Rattle.sc_unify.specs.Bindings.{bindings, finished}
use Rattle.sc_unify.proofs.joint.order_of.Given as goal

abbrev pub invariant-loop-c : goal.invariant-loop-c
invariant-loop-c l = l.order.items ≡ noted [] (joined (map variables (map (clause_under (finished (bindings l.bound))) (take l.c-index l.clauses))))
