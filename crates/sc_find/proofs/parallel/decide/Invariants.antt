use Rattle.std.proofs.Common.{◌+◌, ◌≤◌, ℕ, length, vec_len}
use Rattle.sc_find.specs.Models.{Task}
use Rattle.sc_find.specs.Pieces.{ArePieces, AreAnswersFrom}
use Rattle.sc_find.proofs.DecideLaws.{AreLeft}
use Rattle.sc_find.proofs.parallel.decide.Given as goal

abbrev pub invariant-loop-answer : goal.invariant-loop-answer
invariant-loop-answer l =
    (l.from + vec_len l.answers ≤ 9)
    × ((task : Task) (budget : ℕ) → ArePieces task l.from (length l.initial.answers.items) → AreAnswersFrom task budget l.from l.initial.answers.items
    → AreLeft task budget l.from l.answers.items (l.from + length l.initial.answers.items) l.decided)

abbrev pub decreases-loop-answer : goal.decreases-loop-answer
decreases-loop-answer l = vec_len l.answers
