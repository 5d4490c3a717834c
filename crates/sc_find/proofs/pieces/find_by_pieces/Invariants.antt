use Rattle.sc_find.specs.Answers.{NoneBefore}
use Rattle.sc_find.proofs.pieces.find_by_pieces.Given as goal

abbrev pub invariant-loop-piece : goal.invariant-loop-piece
invariant-loop-piece l = NoneBefore l.job l.piece
