-- When an answer stands, and what is written of it.
use Rattle.std.specs.Prelude.{◌≡◌, ◌≤◌, ℕ, List, length, ◌⊎◌, ⊤, IfSome, IsSome, String}
use Rattle.std.specs.declared.alloc.Global.{Global}
use Rattle.std.specs.declared.option.Option.{Option}
use Rattle.sc_base.specs.Causes.{Rose}
use Rattle.sc_base.specs.Taken.{Grows, GrowsByPart}
use Rattle.sc_top_words.specs.declared.commands.Command.{Command}
use Rattle.sc_top_words.specs.declared.commands.Command.TheVariants as command
use Rattle.sc_top.specs.declared.answer.Answer.{Answer}
use Rattle.sc_top.specs.declared.answer.Answer.TheVariants.{ProofChecked, NotAProof, Ran, Model, Benched, InputRefused, WordsRefused, ReadFault, OutOfMemory}
use Rattle.sc_top_words.specs.Words.{Asks}
use Rattle.sc_top.specs.Answers.{status_of, text_of, IsAnswerTo}
use Rattle.sc_top.specs.Runs.{IsProveAnswer, SpellNeverSpent}
use Rattle.sc_top.specs.Sought.{IsModelAnswer}
use Rattle.sc_top.specs.Ladder.{ladder, bench_plan, IsBenchAnswer}

-- an answer to the bytes, for the command; `bench` has the same ones whatever they are
abbrev pub IsAnswerBy : Command → List ℕ → Answer → Type 0
IsAnswerBy command.Check bytes a = IsAnswerTo bytes a
IsAnswerBy (command.Prove plan) bytes a = IsProveAnswer plan bytes a
IsAnswerBy (command.Model size upto nodes workers) bytes a = IsModelAnswer size upto nodes bytes a
IsAnswerBy (command.Bench rungs) bytes a = IsBenchAnswer rungs a

-- an answer to the source's bytes, for the command, where it tells them; to `bench`, whether it tells them or not
abbrev pub AnswersBy : Command → Option (List ℕ) → Answer → Type 0
AnswersBy command.Check told a = IfSome told (λ bytes. IsAnswerTo bytes a)
AnswersBy (command.Prove plan) told a = IfSome told (λ bytes. IsProveAnswer plan bytes a)
AnswersBy (command.Model size upto nodes workers) told a = IfSome told (λ bytes. IsModelAnswer size upto nodes bytes a)
AnswersBy (command.Bench rungs) told a = IsBenchAnswer rungs a

-- the bytes decide one answer for the command; a search for a model may be given up where its budget is spent, and where
-- finders run beside the prover the answer depends on when it looks
abbrev pub IsDecisive : Command → List ℕ → Type 0
IsDecisive command.Check bytes = ⊤
IsDecisive (command.Prove plan) bytes = (plan.finders ≡ 0) × SpellNeverSpent plan bytes
IsDecisive (command.Model size upto nodes workers) bytes = ⊥
IsDecisive (command.Bench rungs) bytes = SpellNeverSpent bench_plan (ladder rungs)

-- the words ask for a command, and the answer is one to the source's bytes, where it tells them
abbrev pub AnswersFor : List (String Global) → Option (List ℕ) → Answer → Type 0
AnswersFor words told a = (command : Command) × Asks words command × AnswersBy command told a

-- the words ask for no command
abbrev pub AskForNone : List (String Global) → Type 0
AskForNone words = (command : Command) → ¬ Asks words command

-- when the answer to the command stands, by the source's bytes, where it tells them, and its counts of faults before and after
abbrev pub StandsBy : Command → Option (List ℕ) → ℕ → ℕ → Answer → Type 0
StandsBy command told before now WordsRefused = ⊥
StandsBy command told before now ReadFault = Rose before now
StandsBy command told before now OutOfMemory = ⊤
StandsBy command told before now (ProofChecked n) = AnswersBy command told (ProofChecked n)
StandsBy command told before now (NotAProof k) = AnswersBy command told (NotAProof k)
StandsBy command told before now (Ran o text) = AnswersBy command told (Ran o text)
StandsBy command told before now (Model m) = AnswersBy command told (Model m)
StandsBy command told before now (Benched run) = AnswersBy command told (Benched run)
StandsBy command told before now (InputRefused p) = AnswersBy command told (InputRefused p)

-- the same, by the words, the source's bytes, where it tells them, and its counts of faults before and after
abbrev pub Stands : List (String Global) → Option (List ℕ) → ℕ → ℕ → Answer → Type 0
Stands words told before now WordsRefused = AskForNone words
Stands words told before now ReadFault = Rose before now
Stands words told before now OutOfMemory = ⊤
Stands words told before now (ProofChecked n) = AnswersFor words told (ProofChecked n)
Stands words told before now (NotAProof k) = AnswersFor words told (NotAProof k)
Stands words told before now (Ran o text) = AnswersFor words told (Ran o text)
Stands words told before now (Model m) = AnswersFor words told (Model m)
Stands words told before now (Benched run) = AnswersFor words told (Benched run)
Stands words told before now (InputRefused p) = AnswersFor words told (InputRefused p)

-- the command asks for no finder beside the prover, and for no more workers than the thread that asks
abbrev pub IsAlone : Command → Type 0
IsAlone command.Check = ⊤
IsAlone (command.Prove plan) = plan.finders ≡ 0
IsAlone (command.Model size upto nodes workers) = workers ≤ 1
IsAlone (command.Bench rungs) = ⊤

-- the command asks for nothing of the source
abbrev pub ReadsNothing : Command → Type 0
ReadsNothing command.Check = ⊥
ReadsNothing (command.Prove plan) = ⊥
ReadsNothing (command.Model size upto nodes workers) = ⊥
ReadsNothing (command.Bench rungs) = ⊤

-- 0, 1 or 2 as the answer is good, bad or given up, 3 where the input is refused, or 7 where memory was wanting
abbrev pub IsStatusOfAnswer : ℕ → Type 0
IsStatusOfAnswer status = (status ≤ 3) ⊎ (status ≡ 7)

-- ---- what is written

-- the text of the answer was written whole, and its status given; where the text fits into the room that the sink is sure
-- to tell of, what was written is told
pub record IsWritten (room : ℕ) (old new : Option (List ℕ)) (status : ℕ) (a : Answer) : Type 0 where
  pub is : status ≡ status_of a
  pub whole : Grows old new (text_of a)
  pub told : length (text_of a) ≤ room → IsSome old → IsSome new

-- what is written of an answer: its text, or that of want of memory in its place
abbrev pub TellsOf : (Answer → Type 0) → Answer → Type 0
TellsOf P a = P a ⊎ P OutOfMemory

-- An answer to the command that stands was written: by the source's bytes and counts of faults, and what the sink had taken.
pub record IsAnsweredBy (command : Command) (told : Option (List ℕ)) (before now room : ℕ) (old new : Option (List ℕ)) (status : ℕ) : Type 0 where
  pub answer : Answer
  pub stands : StandsBy command told before now answer
  pub written : IsWritten room old new status answer

-- An answer that stands was written: by the source's bytes and counts of faults, and what the sink had taken.
pub record IsAnswered (words : List (String Global)) (told : Option (List ℕ)) (before now room : ℕ) (old new : Option (List ℕ)) (status : ℕ) : Type 0 where
  pub answer : Answer
  pub stands : Stands words told before now answer
  pub written : IsWritten room old new status answer

-- an answer to the command stands, but of its text a part alone was written
pub record IsCutShortBy (command : Command) (told : Option (List ℕ)) (before now : ℕ) (old new : Option (List ℕ)) : Type 0 where
  pub answer : Answer
  pub stands : StandsBy command told before now answer
  pub part : GrowsByPart old new (text_of answer)

-- an answer stands, but of its text a part alone was written
pub record IsCutShort (words : List (String Global)) (told : Option (List ℕ)) (before now : ℕ) (old new : Option (List ℕ)) : Type 0 where
  pub answer : Answer
  pub stands : Stands words told before now answer
  pub part : GrowsByPart old new (text_of answer)

-- where the bytes decide an answer, it was written, unless a fault of the source or want of memory came between
abbrev pub IsDecided : Command → ℕ → Option (List ℕ) → Option (List ℕ) → ℕ → List ℕ → Type 0
IsDecided command room old new status bytes = IsDecisive command bytes → (a : Answer) → IsAnswerBy command bytes a → IsWritten room old new status a ⊎ (status ≡ 5) ⊎ (status ≡ 7)

-- an answer to the bytes was written whole
abbrev pub IsToldOf : Command → ℕ → Option (List ℕ) → Option (List ℕ) → ℕ → List ℕ → Type 0
IsToldOf command room old new status bytes = (a : Answer) × IsAnswerBy command bytes a × IsWritten room old new status a
