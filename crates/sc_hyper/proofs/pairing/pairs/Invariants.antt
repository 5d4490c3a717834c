use Rattle.std.proofs.Common.{◌≡◌, List, take}
use Rattle.sc_term.specs.declared.Pair.{Pair}
use Rattle.sc_hyper.specs.Making.{ArePaired}
use Rattle.sc_hyper.proofs.pairing.pairs.Given as goal

abbrev pub invariant-loop-at : goal.invariant-loop-at
invariant-loop-at l = (ps : List Pair) → ArePaired l.parents l.lits l.others ps → l.found ≡ take l.at ps
