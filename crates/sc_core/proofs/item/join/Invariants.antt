use Rattle.std.proofs.Common.{◌≡◌, ◌++◌, take}
use Rattle.sc_core.proofs.item.join.Given as goal

abbrev pub invariant-loop-n : goal.invariant-loop-n
invariant-loop-n l = l.waiting.items ≡ l.fn.waiting.items ++ take l.n-index l.numbers
