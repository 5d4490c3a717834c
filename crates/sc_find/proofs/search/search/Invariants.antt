use Rattle.std.proofs.Common.{◌≡◌, ◌≤◌, length}
use Rattle.sc_find.specs.Watching.{IsWatching}
use Rattle.sc_find.proofs.LeftLaws.{left_to_try}
use Rattle.sc_find.proofs.SearchingLaws.{IsSearching}
use Rattle.sc_find.proofs.StepLaws.{EndsAt}
use Rattle.sc_find.proofs.search.search.Given as goal

abbrev pub invariant-loop-piece : goal.invariant-loop-piece
invariant-loop-piece l = record {
  cells : l.given.cells ≡ l.fn.given.cells;
  within : l.nodes ≤ l.budget;
  searching : IsSearching l.job l.piece l.fn.given.cells l.given.values l.next l.nodes;
  ends : EndsAt l.job l.piece l.fn.given.cells l.given.values l.end;
  watching : IsWatching l.job l.given l.watches;
}

abbrev pub decreases-loop-piece : goal.decreases-loop-piece
decreases-loop-piece l = left_to_try 8 (length l.fn.given.cells) l.given.values l.next
