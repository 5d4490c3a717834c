use Rattle.std.proofs.Common.{◌≡◌, take}
use Rattle.sc_keep.proofs.copies.copy_symbols.Given as goal

abbrev pub invariant-loop-n : goal.invariant-loop-n
invariant-loop-n l = l.made ≡ take l.n l.sig
