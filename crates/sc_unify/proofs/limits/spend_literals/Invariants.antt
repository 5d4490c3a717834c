use Rattle.std.proofs.Common.{◌≡◌, ◌≤◌, ◌+◌, map, sum, take}
use Rattle.sc_term.specs.Term.{largest}
use Rattle.sc_term.specs.Clause.{literal_weight, literal_depth}
use Rattle.sc_term.specs.Substitution.{literal_under}
use Rattle.sc_unify.specs.Bindings.{bindings, finished}
use Rattle.sc_unify.proofs.limits.spend_literals.Given as goal

abbrev pub invariant-loop-literal : goal.invariant-loop-literal
invariant-loop-literal l =
    let made = map (literal_under (finished (bindings l.bound))) (take l.literal-index l.literals) in
    (l.left + sum (map literal_weight made) ≡ l.weight) × (largest (map literal_depth made) ≤ 256)
