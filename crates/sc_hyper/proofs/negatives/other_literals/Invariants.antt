use Rattle.std.proofs.Common.{◌≡◌, ◌≤◌, ◌+◌, [], Some, map, length}
use Rattle.sc_term.specs.Numbering.{numbered}
use Rattle.sc_resolve.specs.Extending.{Extends, Below}
use Rattle.sc_hyper.specs.Negatives.{IsPickedAt, IsOther}
use Rattle.sc_hyper.proofs.NegativeLaws.{itself}
use Rattle.sc_hyper.proofs.negatives.other_literals.Given as goal

abbrev pub invariant-loop-at : goal.invariant-loop-at
invariant-loop-at l = record {
  are : Extends itself (Below (IsPickedAt (IsOther l.target) l.all) l.at) (length l.numbers + 1) [] l.numbers;
  few : length l.literals ≤ l.at;
  there : map Some l.literals ≡ map (numbered l.all) l.numbers;
}
