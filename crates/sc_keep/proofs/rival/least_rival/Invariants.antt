use Rattle.std.proofs.Common.{◌++◌, List, take}
use Rattle.sc_term.specs.declared.Numbered.{Numbered}
use Rattle.sc_keep.specs.Rivals.{IsLeastRival}
use Rattle.sc_keep.proofs.rival.least_rival.Given as goal

abbrev pub invariant-loop-m : goal.invariant-loop-m
invariant-loop-m l = (front : List Numbered) → IsLeastRival l.n front l.fn.best → IsLeastRival l.n (front ++ take l.m-index l.ps) l.best
