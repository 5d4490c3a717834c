use Rattle.sc_resolve.specs.Extending.{Extends, Below}
use Rattle.sc_para.specs.Spots.{pair_numbers}
use Rattle.sc_para.specs.Pairs.{IsWithTarget}
use Rattle.sc_para.proofs.pairs.add_with_targets.Given as goal

abbrev pub invariant-loop-at : goal.invariant-loop-at
invariant-loop-at l = Extends pair_numbers (Below (IsWithTarget l.source l.spot l.literals) l.at) l.limit l.initial.sites l.sites
