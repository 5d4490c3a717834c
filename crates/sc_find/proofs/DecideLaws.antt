-- Answers in several pieces, taken from the last to the first.
use Rattle.std.proofs.Common.{◌≡◌, ◌∙◌, ap, subst, ℕ, ◌+◌, ◌<◌, List, [], ◌∷◌, ◌++◌, Result, Ok, Option, IfOk, length, arith}
use Rattle.std.proofs.lemmas.List.{length-append}
use Rattle.std.proofs.Math.ListN.{get_or-append}
use Rattle.std.proofs.Math.Seq.{get_or-append_seam}
use Rattle.std.specs.Prelude.{slice_index_or}
use Rattle.sc_term.specs.declared.memory.OutOfMemory.{OutOfMemory}
use Rattle.sc_find.specs.declared.answer.Found.{Found}
use Rattle.sc_find.specs.declared.answer.FoundAll.{FoundAll}
use Rattle.sc_find.specs.Models.{Task, IsPiece}
use Rattle.sc_find.specs.Pieces.{ArePieces, IsAnswerIn, AreAnswersFrom, IsDecidedFrom}

-- the answers that are left, the pieces behind which have decided this
pub record AreLeft (task : Task) (budget from : ℕ) (left : List (Result Found OutOfMemory)) (end : ℕ) (decided : Option FoundAll) : Type 0 where
  pub pieces : ArePieces task from (length left)
  pub answers : AreAnswersFrom task budget from left
  pub decides : IsDecidedFrom task budget (from + length left) end decided

-- the front of answers, and the last of them
longer : (left : List (Result Found OutOfMemory)) (last : Result Found OutOfMemory) → length (left ++ last ∷ []) ≡ length left + 1
longer left last = length-append left (last ∷ [])

pub one_less : (task : Task) (budget from end : ℕ) (all left : List (Result Found OutOfMemory)) (last : Found) (later now : Option FoundAll) → all ≡ left ++ Ok last ∷ []
    → AreLeft task budget from all end later
    → ((value : Option ℕ) → IsPiece task (from + length left) value → IsAnswerIn task budget (from + length left) last → IsDecidedFrom task budget (from + length left + 1) end later → IsDecidedFrom task budget (from + length left) end now)
    → AreLeft task budget from left end now
one_less task budget from end all left last later now is before step = record {
  pieces = λ i less. before.pieces i (omega (arith, less, count));
  answers = λ i other less.
      subst (λ r. IfOk r (IsAnswerIn task budget (from + i))) (at i other less) (before.answers i other (omega (arith, less, count)));
  decides =
      let piece = before.pieces (length left) (omega (arith, count)) in
      step piece.0 piece.1
      (subst (λ r. IfOk r (IsAnswerIn task budget (from + length left))) seam (before.answers (length left) (Ok last) (omega (arith, count))))
      (subst (λ n. IsDecidedFrom task budget n end later) (omega (arith, count)) before.decides);
}
  where
    count : length all ≡ length left + 1
    count = ap length is ∙ longer left (Ok last)

    at : (i : ℕ) (other : Result Found OutOfMemory) → i < length left → slice_index_or all i other ≡ slice_index_or left i other
    at i other less = ap (λ xs. slice_index_or xs i other) is ∙ get_or-append left (Ok last ∷ []) other i less

    seam : slice_index_or all (length left) (Ok last) ≡ Ok last
    seam = ap (λ xs. slice_index_or xs (length left) (Ok last)) is ∙ get_or-append_seam left (Ok last) [] (Ok last)

pub none_left : (task : Task) (budget from end : ℕ) (left : List (Result Found OutOfMemory)) (decided : Option FoundAll) → left ≡ [] → AreLeft task budget from left end decided → IsDecidedFrom task budget from end decided
none_left task budget from end left decided none are = subst (λ n. IsDecidedFrom task budget n end decided) (omega (arith, ap length none)) are.decides
