use Rattle.std.proofs.Common.{◌≡◌, ◌++◌, take}
use Rattle.sc_unify.specs.Search.{terms}
use Rattle.sc_unify.proofs.occurs.push_all.Given as goal

abbrev pub invariant-loop-arg : goal.invariant-loop-arg
invariant-loop-arg l = terms l.todo.items ≡ terms l.initial.todo.items ++ take l.arg-index l.args
