use Rattle.std.proofs.Common.{◌≡◌, ◌≤◌, ◌+◌, map, sum, take}
use Rattle.sc_term.specs.Term.{largest}
use Rattle.sc_term.specs.Clause.{literal_weight, literal_depth}
use Rattle.sc_term.specs.Substitution.{clause_under}
use Rattle.sc_term.specs.JointInstance.{whole}
use Rattle.sc_unify.specs.Bindings.{bindings, finished}
use Rattle.sc_unify.proofs.joint.spend_clauses.Given as goal

abbrev pub invariant-loop-c : goal.invariant-loop-c
invariant-loop-c l =
    let made = whole (map (clause_under (finished (bindings l.bound))) (take l.c-index l.clauses)) in
    (l.left + sum (map literal_weight made.literals) ≡ l.weight) × (largest (map literal_depth made.literals) ≤ 256)
