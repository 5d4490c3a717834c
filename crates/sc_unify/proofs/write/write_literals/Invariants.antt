use Rattle.std.proofs.Common.{◌≡◌, map, take}
use Rattle.sc_term.specs.Substitution.{literal_under}
use Rattle.sc_unify.specs.Bindings.{bindings, finished}
use Rattle.sc_unify.proofs.write.write_literals.Given as goal

abbrev pub invariant-loop-literal : goal.invariant-loop-literal
invariant-loop-literal l = l.made ≡ map (literal_under (finished (bindings l.bound))) (take l.literal-index l.literals)
