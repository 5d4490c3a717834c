-- Answers in several pieces of a task, and what they decide together.
use Rattle.std.specs.Prelude.{◌+◌, ◌<◌, ℕ, List, Result, Option, Some, None, IfOk, length, slice_index_or}
use Rattle.sc_term.specs.declared.memory.OutOfMemory.{OutOfMemory}
use Rattle.sc_find.specs.declared.answer.Found.{Found}
use Rattle.sc_find.specs.declared.answer.FoundAll.{FoundAll}
use Rattle.sc_find.specs.Models.{Task, IsPiece}
use Rattle.sc_find.specs.Answers.{IsFound, NoneBefore, AreFound}

-- there is a piece of each number, from the first on as many as counted
abbrev pub ArePieces : Task → ℕ → ℕ → Type 0
ArePieces task from count = (i : ℕ) → i < count → (value : Option ℕ) × IsPiece task (from + i) value

-- the answer is that of a search in the piece of that number
abbrev pub IsAnswerIn : Task → ℕ → ℕ → Found → Type 0
IsAnswerIn task budget p found = (value : Option ℕ) → IsPiece task p value → IsFound task value budget found

-- the answers, where memory wasn't wanting, are those in the pieces from the first on
abbrev pub AreAnswersFrom : Task → ℕ → ℕ → List (Result Found OutOfMemory) → Type 0
AreAnswersFrom task budget from answers =
    (i : ℕ) (other : Result Found OutOfMemory) → i < length answers → IfOk (slice_index_or answers i other) (IsAnswerIn task budget (from + i))

-- it is decided what is found in all pieces, or no piece before the end has a model
abbrev pub IsDecided : Task → ℕ → ℕ → Option FoundAll → Type 0
IsDecided task budget end (Some all) = AreFound task budget all
IsDecided task budget end None = NoneBefore task end

-- so it is where no piece before that number has a model
abbrev pub IsDecidedFrom : Task → ℕ → ℕ → ℕ → Option FoundAll → Type 0
IsDecidedFrom task budget p end decided = NoneBefore task p → IsDecided task budget end decided
