-- The answer that was written is one to the bytes, and the one that they decide where they decide one.
use Rattle.std.proofs.Common.{◌≡◌, ◌∙◌, sym, subst, refl, ℕ, List, length, ◌≤◌, ◌<◌, Option, Some, None, inl, inr, ◌⊎◌, arith}
use Rattle.std.specs.Prelude.{◌≢◌, IfSome, String}
use Rattle.std.specs.declared.alloc.Global.{Global}
use Rattle.sc_core_rules.specs.declared.row.Outcome.{Outcome}
use Rattle.sc_core_rules.specs.declared.row.Outcome.TheVariants as outcome
use Rattle.sc_base.specs.Causes.{Rose}
use Rattle.sc_base.specs.Taken.{Grows, GrowsByPart, KeepsTold}
use Rattle.sc_top.specs.declared.answer.Answer.{Answer}
use Rattle.sc_top.specs.declared.answer.Answer.TheVariants.{ProofChecked, NotAProof, Ran, Model, Benched, InputRefused, WordsRefused, ReadFault, OutOfMemory}
use Rattle.sc_top.specs.declared.answer.Modelled.{Modelled}
use Rattle.sc_top.specs.declared.answer.Modelled.TheVariants as modelled
use Rattle.sc_top_words.specs.declared.commands.Command.{Command}
use Rattle.sc_top_words.specs.declared.commands.Command.TheVariants as command
use Rattle.sc_top_words.specs.Words.{Asks}
use Rattle.sc_input_rules.specs.declared.fault.InputKind.TheVariants.{TooLong}
use Rattle.sc_input_rules.specs.Faults.{place}
use Rattle.sc_top.specs.Answers.{most_bytes, outcome_status, modelled_status, status_of, text_of, MakesText, IsAnswerTo}
use Rattle.sc_top.specs.Runs.{IsProveAnswer}
use Rattle.sc_top.specs.Sought.{IsModelAnswer}
use Rattle.sc_top.specs.Ladder.{IsBenchAnswer}
use Rattle.sc_top.specs.Told.{IsAnswerBy, IsDecisive, AnswersBy, AnswersFor, ReadsNothing, IsStatusOfAnswer, Stands, StandsBy, IsDecided, TellsOf, IsWritten, IsAnswered, IsAnsweredBy, IsCutShort, IsCutShortBy, IsToldOf}
use Rattle.sc_top.proofs.AnswerLaws.{one_answer, too_many}
use Rattle.sc_top.proofs.BenchLaws.{one_bench_answer}
use Rattle.sc_top.proofs.ProveLaws.{one_prove_answer, too_many_spell}
use Rattle.sc_top_words.proofs.WordLaws.{one_command}

-- ---- what the source's bytes have as an answer

-- an answer to the bytes that were read is one to the source's, where it tells them
answers_read : (command : Command) (told : Option (List ℕ)) (bytes : List ℕ) (a : Answer) → ¬ ReadsNothing command → IfSome told (λ xs. bytes ≡ xs) → IsAnswerBy command bytes a → AnswersBy command told a
answers_read command.Check None bytes a reads e h = tt
answers_read command.Check (Some xs) bytes a reads e h = subst (λ (ys : List ℕ). IsAnswerTo ys a) e h
answers_read (command.Prove plan) None bytes a reads e h = tt
answers_read (command.Prove plan) (Some xs) bytes a reads e h = subst (λ (ys : List ℕ). IsProveAnswer plan ys a) e h
answers_read (command.Model size upto nodes workers) None bytes a reads e h = tt
answers_read (command.Model size upto nodes workers) (Some xs) bytes a reads e h = subst (λ (ys : List ℕ). IsModelAnswer size upto nodes ys a) e h
answers_read (command.Bench rungs) told bytes a reads e h = absurd (reads tt)

no_words_by : (command : Command) (bytes : List ℕ) → IsAnswerBy command bytes WordsRefused → ⊥
no_words_by command.Check bytes h = h
no_words_by (command.Prove plan) bytes h = h
no_words_by (command.Model size upto nodes workers) bytes h = h
no_words_by (command.Bench rungs) bytes h = h

no_fault_by : (command : Command) (bytes : List ℕ) → IsAnswerBy command bytes ReadFault → ⊥
no_fault_by command.Check bytes h = h
no_fault_by (command.Prove plan) bytes h = h
no_fault_by (command.Model size upto nodes workers) bytes h = h
no_fault_by (command.Bench rungs) bytes h = h

pub stands_read : (command : Command) (told : Option (List ℕ)) (bytes : List ℕ) (before now : ℕ) (a : Answer) → ¬ ReadsNothing command → IfSome told (λ xs. bytes ≡ xs)
    → IsAnswerBy command bytes a ⊎ (a ≡ OutOfMemory) → StandsBy command told before now a
stands_read command told bytes before now a reads e (inr is) = subst (StandsBy command told before now) (sym is) tt
stands_read command told bytes before now (ProofChecked n) reads e (inl h) = answers_read command told bytes (ProofChecked n) reads e h
stands_read command told bytes before now (NotAProof k) reads e (inl h) = answers_read command told bytes (NotAProof k) reads e h
stands_read command told bytes before now (Ran o text) reads e (inl h) = answers_read command told bytes (Ran o text) reads e h
stands_read command told bytes before now (Model m) reads e (inl h) = answers_read command told bytes (Model m) reads e h
stands_read command told bytes before now (Benched run) reads e (inl h) = answers_read command told bytes (Benched run) reads e h
stands_read command told bytes before now (InputRefused p) reads e (inl h) = answers_read command told bytes (InputRefused p) reads e h
stands_read command told bytes before now WordsRefused reads e (inl h) = no_words_by command bytes h
stands_read command told bytes before now ReadFault reads e (inl h) = absurd (no_fault_by command bytes h)
stands_read command told bytes before now OutOfMemory reads e (inl h) = tt

-- too many bytes are refused
pub stands_long : (command : Command) (told : Option (List ℕ)) (before now : ℕ) → ¬ ReadsNothing command → IfSome told (λ xs. most_bytes < length xs)
    → StandsBy command told before now (InputRefused (place most_bytes TooLong))
stands_long command.Check None before now reads h = tt
stands_long command.Check (Some xs) before now reads h = too_many xs h
stands_long (command.Prove plan) None before now reads h = tt
stands_long (command.Prove plan) (Some xs) before now reads h = too_many_spell xs h
stands_long (command.Model size upto nodes workers) None before now reads h = tt
stands_long (command.Model size upto nodes workers) (Some xs) before now reads h = too_many_spell xs h
stands_long (command.Bench rungs) told before now reads h = absurd (reads tt)

-- an answer to a ladder stands, whatever the source is
pub stands_benched : (rungs : ℕ) (told : Option (List ℕ)) (before now : ℕ) (a : Answer) → IsBenchAnswer rungs a ⊎ (a ≡ OutOfMemory) → StandsBy (command.Bench rungs) told before now a
stands_benched rungs told before now a (inr is) = subst (StandsBy (command.Bench rungs) told before now) (sym is) tt
stands_benched rungs told before now (ProofChecked n) (inl h) = h
stands_benched rungs told before now (NotAProof k) (inl h) = h
stands_benched rungs told before now (Ran o text) (inl h) = h
stands_benched rungs told before now (Model m) (inl h) = h
stands_benched rungs told before now (Benched run) (inl h) = h
stands_benched rungs told before now (InputRefused p) (inl h) = h
stands_benched rungs told before now WordsRefused (inl h) = h
stands_benched rungs told before now ReadFault (inl h) = absurd h
stands_benched rungs told before now OutOfMemory (inl h) = tt

-- an answer that stands for the command that the words ask for stands for the words
for_words : (words : List (String Global)) (command : Command) (told : Option (List ℕ)) (a : Answer) → Asks words command → AnswersBy command told a → AnswersFor words told a
for_words words command told a asked h = (command, asked, h)

stands_for : (words : List (String Global)) (command : Command) (told : Option (List ℕ)) (before now : ℕ) (a : Answer) → Asks words command → StandsBy command told before now a → Stands words told before now a
stands_for words command told before now (ProofChecked n) asked h = for_words words command told (ProofChecked n) asked h
stands_for words command told before now (NotAProof n) asked h = for_words words command told (NotAProof n) asked h
stands_for words command told before now (Ran o text) asked h = for_words words command told (Ran o text) asked h
stands_for words command told before now (Model m) asked h = for_words words command told (Model m) asked h
stands_for words command told before now (Benched run) asked h = for_words words command told (Benched run) asked h
stands_for words command told before now (InputRefused p) asked h = for_words words command told (InputRefused p) asked h
stands_for words command told before now WordsRefused asked h = absurd h
stands_for words command told before now ReadFault asked h = h
stands_for words command told before now OutOfMemory asked h = tt

-- the bytes decide one answer
one_by : (command : Command) (bytes : List ℕ) (a b : Answer) → IsDecisive command bytes → IsAnswerBy command bytes a → IsAnswerBy command bytes b → a ≡ b
one_by command.Check bytes a b d h k = one_answer bytes a b h k
one_by (command.Prove plan) bytes a b d h k = one_prove_answer plan bytes a b d.0 d.1 h k
one_by (command.Model size upto nodes workers) bytes a b d h k = absurd d
one_by (command.Bench rungs) bytes a b d h k = one_bench_answer rungs a b d h k

-- an answer to bytes that are told is one to the bytes
told_answer : (command : Command) (bytes : List ℕ) (a : Answer) → AnswersBy command (Some bytes) a → IsAnswerBy command bytes a
told_answer command.Check bytes a h = h
told_answer (command.Prove plan) bytes a h = h
told_answer (command.Model size upto nodes workers) bytes a h = h
told_answer (command.Bench rungs) bytes a h = h

-- ---- what was written

module _ (command : Command) (told : Option (List ℕ)) (before now : ℕ) where
  pub answered : (room : ℕ) (old new : Option (List ℕ)) (status : ℕ) (a : Answer) → StandsBy command told before now a
      → TellsOf (IsWritten room old new status) a → IsAnsweredBy command told before now room old new status
  answered room old new status a stands (inl w) = record { answer = a; stands = stands; written = w }
  answered room old new status a stands (inr w) = record { answer = OutOfMemory; stands = tt; written = w }

  pub cut_short : (old new : Option (List ℕ)) (a : Answer) → StandsBy command told before now a
      → TellsOf (λ (a : Answer). GrowsByPart old new (text_of a)) a → IsCutShortBy command told before now old new
  cut_short old new a stands (inl w) = record { answer = a; stands = stands; part = w }
  cut_short old new a stands (inr w) = record { answer = OutOfMemory; stands = tt; part = w }

  pub answered_words : (words : List (String Global)) (room : ℕ) (old new : Option (List ℕ)) (status : ℕ) → Asks words command → IsAnsweredBy command told before now room old new status
      → IsAnswered words told before now room old new status
  answered_words words room old new status asked h = record { answer = h.answer; stands = stands_for words command told before now h.answer asked h.stands; written = h.written }

  pub cut_short_words : (words : List (String Global)) (old new : Option (List ℕ)) → Asks words command → IsCutShortBy command told before now old new → IsCutShort words told before now old new
  cut_short_words words old new asked h = record { answer = h.answer; stands = stands_for words command told before now h.answer asked h.stands; part = h.part }

module _ (command : Command) (room : ℕ) (old new : Option (List ℕ)) (status : ℕ) where
  -- an answer that stands for bytes is one to them, unless it is one of the rare ones
  told_by : (before now : ℕ) (bytes : List ℕ) (b : Answer) → StandsBy command (Some bytes) before now b → IsWritten room old new status b
      → IsToldOf command room old new status bytes ⊎ (status ≡ 5) ⊎ (status ≡ 7)
  told_by before now bytes (ProofChecked n) h w = inl (ProofChecked n, told_answer command bytes (ProofChecked n) h, w)
  told_by before now bytes (NotAProof n) h w = inl (NotAProof n, told_answer command bytes (NotAProof n) h, w)
  told_by before now bytes (Ran o text) h w = inl (Ran o text, told_answer command bytes (Ran o text) h, w)
  told_by before now bytes (Model m) h w = inl (Model m, told_answer command bytes (Model m) h, w)
  told_by before now bytes (Benched run) h w = inl (Benched run, told_answer command bytes (Benched run) h, w)
  told_by before now bytes (InputRefused p) h w = inl (InputRefused p, told_answer command bytes (InputRefused p) h, w)
  told_by before now bytes WordsRefused h w = absurd h
  told_by before now bytes ReadFault h w = inr (inl w.is)
  told_by before now bytes OutOfMemory h w = inr (inr w.is)

  -- where the bytes decide an answer, the one that was written is it
  same : (bytes : List ℕ) → IsToldOf command room old new status bytes ⊎ (status ≡ 5) ⊎ (status ≡ 7) → IsDecided command room old new status bytes
  same bytes (inl (b, h, w)) decisive a k = inl (subst (IsWritten room old new status) (one_by command bytes b a decisive h k) w)
  same bytes (inr other) decisive a k = inr other

  pub decided : (told : Option (List ℕ)) (before now : ℕ) (b : Answer) → StandsBy command told before now b
      → TellsOf (IsWritten room old new status) b → IfSome told (IsDecided command room old new status)
  decided None before now b h w = tt
  decided (Some bytes) before now b h (inl w) = same bytes (told_by before now bytes b h w)
  decided (Some bytes) before now b h (inr w) = λ decisive a k. inr (inr w.is)

  only : (bytes : List ℕ) → status ≢ 5 → status ≢ 7 → IsToldOf command room old new status bytes ⊎ (status ≡ 5) ⊎ (status ≡ 7) → IsToldOf command room old new status bytes
  only bytes five seven (inl h) = h
  only bytes five seven (inr (inl e)) = absurd (five e)
  only bytes five seven (inr (inr e)) = absurd (seven e)

  pub told : (told : Option (List ℕ)) (before now : ℕ) (b : Answer) → status ≢ 5 → status ≢ 7 → StandsBy command told before now b
      → TellsOf (IsWritten room old new status) b → IfSome told (IsToldOf command room old new status)
  told None before now b five seven h w = tt
  told (Some bytes) before now b five seven h (inl w) = only bytes five seven (told_by before now bytes b h w)
  told (Some bytes) before now b five seven h (inr w) = absurd (seven w.is)

-- the words ask for one command
pub of_command : (words : List (String Global)) (P : Command → Type 0) (command other : Command) → Asks words command → Asks words other → P command → P other
of_command words P command other asked also h = subst P (one_command words command other asked also) h

-- status 5 is that of a fault of the source alone
no_fault : (o : Outcome) → outcome_status o ≢ 5
no_fault outcome.Proof e = omega (arith, e)
no_fault outcome.SosEmpty e = omega (arith, e)
no_fault (outcome.GivenLimit n) e = omega (arith, e)
no_fault (outcome.KeptLimit n) e = omega (arith, e)
no_fault (outcome.WorkLimit n) e = omega (arith, e)

no_fault_modelled : (m : Modelled) → modelled_status m ≢ 5
no_fault_modelled (modelled.Found text) e = omega (arith, e)
no_fault_modelled (modelled.NoModel size) e = omega (arith, e)
no_fault_modelled (modelled.Spent piece) e = omega (arith, e)
no_fault_modelled (modelled.TooManyCells count) e = omega (arith, e)
no_fault_modelled (modelled.TooManyInstances count) e = omega (arith, e)
no_fault_modelled (modelled.NoModelOfSizes from to) e = omega (arith, e)
no_fault_modelled (modelled.SpentSize size piece) e = omega (arith, e)

fault_of : (command : Command) (told : Option (List ℕ)) (before now : ℕ) (a : Answer) → StandsBy command told before now a → status_of a ≡ 5 → Rose before now
fault_of command told before now (ProofChecked n) h e = absurd (omega (arith, e))
fault_of command told before now (NotAProof k) h e = absurd (omega (arith, e))
fault_of command told before now (Ran o text) h e = absurd (no_fault o e)
fault_of command told before now (Model m) h e = absurd (no_fault_modelled m e)
fault_of command told before now (Benched run) h e = absurd (no_fault run.outcome e)
fault_of command told before now (InputRefused p) h e = absurd (omega (arith, e))
fault_of command told before now WordsRefused h e = absurd (omega (arith, e))
fault_of command told before now ReadFault h e = h
fault_of command told before now OutOfMemory h e = absurd (omega (arith, e))

pub read_fault : (command : Command) (told : Option (List ℕ)) (before now status : ℕ) (a : Answer) → StandsBy command told before now a
    → (status ≡ status_of a) ⊎ (status ≡ 7) ⊎ (status ≡ 6) → status ≡ 5 → Rose before now
read_fault command told before now status a h (inl e) five = fault_of command told before now a h (sym e ∙ five)
read_fault command told before now status a h (inr (inl e)) five = absurd (omega (arith, e, five))
read_fault command told before now status a h (inr (inr e)) five = absurd (omega (arith, e, five))

-- an answer whose text has to be made isn't a fault of the source
makes_no_fault : (a : Answer) → MakesText a → status_of a ≢ 5
makes_no_fault (ProofChecked n) h e = omega (arith, e)
makes_no_fault (NotAProof n) h e = omega (arith, e)
makes_no_fault (Ran o text) h e = absurd h
makes_no_fault (Model m) h e = no_fault_modelled m e
makes_no_fault (Benched run) h e = no_fault run.outcome e
makes_no_fault (InputRefused p) h e = omega (arith, e)
makes_no_fault WordsRefused h e = absurd h
makes_no_fault ReadFault h e = absurd h
makes_no_fault OutOfMemory h e = absurd h

-- where neither status 5 nor 6 is given, the answer is no fault of the source
pub no_read_fault : (status : ℕ) (a : Answer) → (status ≡ status_of a) ⊎ (status ≡ 7) ⊎ (status ≡ 6) → (status ≡ 7 → (status_of a ≡ 7) ⊎ MakesText a) → status ≢ 5 → status ≢ 6 → status_of a ≢ 5
no_read_fault status a (inl e) h five six fault = five (e ∙ fault)
no_read_fault status a (inr (inl e)) h five six fault = by (h e)
  where
    by : (status_of a ≡ 7) ⊎ MakesText a → ⊥
    by (inl seven) = omega (arith, seven, fault)
    by (inr makes) = makes_no_fault a makes fault
no_read_fault status a (inr (inr e)) h five six fault = six e

-- ---- the statuses

status_of_outcome : (o : Outcome) → outcome_status o ≤ 3
status_of_outcome outcome.Proof = omega arith
status_of_outcome outcome.SosEmpty = omega arith
status_of_outcome (outcome.GivenLimit n) = omega arith
status_of_outcome (outcome.KeptLimit n) = omega arith
status_of_outcome (outcome.WorkLimit n) = omega arith

status_of_modelled : (m : Modelled) → modelled_status m ≤ 3
status_of_modelled (modelled.Found text) = omega arith
status_of_modelled (modelled.NoModel size) = omega arith
status_of_modelled (modelled.Spent piece) = omega arith
status_of_modelled (modelled.TooManyCells count) = omega arith
status_of_modelled (modelled.TooManyInstances count) = omega arith
status_of_modelled (modelled.NoModelOfSizes from to) = omega arith
status_of_modelled (modelled.SpentSize size piece) = omega arith

status_of_answer : (a : Answer) → status_of a ≢ 4 → status_of a ≢ 5 → IsStatusOfAnswer (status_of a)
status_of_answer (ProofChecked n) four five = inl (omega arith)
status_of_answer (NotAProof k) four five = inl (omega arith)
status_of_answer (Ran o text) four five = inl (status_of_outcome o)
status_of_answer (Model m) four five = inl (status_of_modelled m)
status_of_answer (Benched run) four five = inl (status_of_outcome run.outcome)
status_of_answer (InputRefused p) four five = inl (omega arith)
status_of_answer WordsRefused four five = absurd (four refl)
status_of_answer ReadFault four five = absurd (five refl)
status_of_answer OutOfMemory four five = inr refl

-- where neither words were refused nor a fault told, the status is that of an answer
pub status_told : (words : List (String Global)) (told : Option (List ℕ)) (before now room : ℕ) (old new : Option (List ℕ)) (status : ℕ) → IsAnswered words told before now room old new status
    → status ≢ 4 → status ≢ 5 → IsStatusOfAnswer status
status_told words told before now room old new status h four five =
    subst IsStatusOfAnswer (sym h.written.is) (status_of_answer h.answer (λ e. four (h.written.is ∙ e)) (λ e. five (h.written.is ∙ e)))

-- a text that was written whole is that of the answer
pub written : (room left : ℕ) (old new : Option (List ℕ)) (status : ℕ) (a : Answer) (text : List ℕ) → text ≡ text_of a → status ≡ status_of a → Grows old new text → KeepsTold room left old new text
    → IsWritten room old new status a
written room left old new status a text e is grows keeps = record {
  is = is;
  whole = subst (Grows old new) e grows;
  told = λ fits some. (keeps (subst (λ (t : List ℕ). length t ≤ room) (sym e) fits) some).1;
}

pub ruleset writing = (written)
