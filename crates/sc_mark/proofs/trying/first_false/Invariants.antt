use Rattle.std.proofs.Common.{◌≡◌, ◌<◌, ℕ, List, length, true}
use Rattle.sc_interp.specs.Assignments.{AreElements, assignment_number, holds_at}
use Rattle.sc_mark.proofs.trying.first_false.Given as goal

abbrev pub invariant-loop-number : goal.invariant-loop-number
invariant-loop-number l = record {
  long : length l.values ≡ length l.initial.values;
  before : (others : List ℕ) → length others ≡ length l.initial.values → AreElements l.size others → assignment_number l.size others < l.number
      → holds_at l.size l.tables l.c others ≡ true;
}
