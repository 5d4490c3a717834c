use Rattle.std.proofs.Common.{◌≡◌, ◌++◌, take, map}
use Rattle.sc_input_values.proofs.stated.push_home.Given as goal

abbrev pub invariant-loop-clause : goal.invariant-loop-clause
invariant-loop-clause l = l.homes ≡ l.fn.homes ++ map (λ _. l.home) (take l._clause-index l.clauses)
