-- The answer to bytes whose problem is to be proved.
use Rattle.std.proofs.Common.{◌≡◌, ◌∙◌, sym, ap, subst, refl, ℕ, ◌<◌, ◌≤◌, inl, inr, arith, Bool, true, false, List, length, Result, Ok, Err}
use Rattle.std.specs.Prelude.{nat_lt}
use Rattle.std.proofs.lemmas.Bool.{lt-ltb, le-ltb}
use Rattle.sc_input_rules.specs.declared.fault.Place.{Place}
use Rattle.sc_input_rules.specs.declared.fault.InputKind.TheVariants.{TooLong}
use Rattle.sc_input_rules.specs.Faults.{place}
use Rattle.sc_input_rules.specs.Problem.{Stated}
use Rattle.sc_input_rules.specs.Reading.{problem_of}
use Rattle.sc_core_rules.specs.Selection.{Seen}
use Rattle.sc_core_rules.specs.declared.row.Outcome.{Outcome}
use Rattle.sc_core_rules.specs.declared.row.Outcome.TheVariants.{Proof}
use Rattle.sc_text_run_rules.specs.RunValue.{RunValue}
use Rattle.sc_text_run_rules.specs.RunText.{run_text}
use Rattle.sc_input_rules.proofs.ReadProblems.{read_problem}
use Rattle.sc_world.proofs.OneRecord.{one_record}
use Rattle.sc_worker.specs.declared.plan.Plan.{Plan}
use Rattle.sc_world.specs.Recorded.{IsRecord, Tells, TellsEnd}
use Rattle.sc_world.specs.Beside.{IsBeside, IsRecorded}
use Rattle.sc_top.specs.NoModel.{HasNoModel}
use Rattle.sc_top.specs.Answers.{most_bytes}
use Rattle.sc_top.specs.Runs.{spelled_problem, HasRun, IsProveAnswer, SpellNeverSpent}
use Rattle.sc_top.specs.declared.answer.Answer.{Answer}
use Rattle.sc_top.specs.declared.answer.Answer.TheVariants.{ProofChecked, NotAProof, Ran, Model, Benched, InputRefused, WordsRefused, ReadFault, OutOfMemory}
use Rattle.sc_top.proofs.AnswerLaws.{no_model_of}

pub few_spell : (bytes : List ℕ) (r : Result Stated Place) → length bytes ≤ most_bytes → problem_of bytes ≡ r → spelled_problem bytes ≡ r
few_spell bytes r le e =
    ap (λ (b : Bool). elim b [ true ↦ Err (place most_bytes TooLong) | false ↦ problem_of bytes ]) (le-ltb most_bytes (length bytes) le) ∙ e

pub too_many_spell : (bytes : List ℕ) → most_bytes < length bytes → spelled_problem bytes ≡ Err (place most_bytes TooLong)
too_many_spell bytes h = ap (λ (b : Bool). elim b [ true ↦ Err (place most_bytes TooLong) | false ↦ problem_of bytes ]) (lt-ltb most_bytes (length bytes) h)

-- ---- records with and without finders beside the prover

pub recorded_alone : (problem : Stated) (plan : Plan) (versions : Seen) (run : RunValue) → plan.finders ≡ 0 → IsRecord problem plan versions run → IsRecorded problem plan versions run
recorded_alone problem plan versions run none record_of = inl (none, record_of)

pub recorded_beside : (problem : Stated) (plan : Plan) (versions : Seen) (run : RunValue) → 1 ≤ plan.finders → IsBeside problem plan versions run → IsRecorded problem plan versions run
recorded_beside problem plan versions run some beside = inr (λ none. omega (arith, none, some), beside)

alone_recorded : (problem : Stated) (plan : Plan) (versions : Seen) (run : RunValue) → plan.finders ≡ 0 → IsRecorded problem plan versions run → IsRecord problem plan versions run
alone_recorded problem plan versions run none (inl h) = h.1
alone_recorded problem plan versions run none (inr h) = absurd (h.0 none)

tells : (problem : Stated) (plan : Plan) (versions : Seen) (run : RunValue) → IsRecorded problem plan versions run → Tells problem versions run
tells problem plan versions run (inl h) = h.1.tells
tells problem plan versions run (inr h) = h.1.tells

-- a run that ended with a proof refutes the input clauses
pub told_no_model : (problem : Stated) (versions : Seen) (run : RunValue) → Tells problem versions run → run.outcome ≡ Proof → HasNoModel problem.inputs
told_no_model problem versions run told is = by told.proof
  where
    by : TellsEnd problem versions told.run run.outcome run.proof run.marks → HasNoModel problem.inputs
    by (inl h) = no_model_of problem.inputs h.1.refuted
    by (inr h) = absurd (h.0 is)

pub has_run : (plan : Plan) (bytes : List ℕ) (problem : Stated) (versions : Seen) (run : RunValue) (text : List ℕ) → spelled_problem bytes ≡ Ok problem
    → IsRecorded problem plan versions run → text ≡ run_text problem.symbols run → IsProveAnswer plan bytes (Ran run.outcome text)
has_run plan bytes problem versions run text read recorded printed = record {
  problem = problem;
  is_read = read;
  versions = versions;
  run = run;
  recorded = recorded;
  ended = refl;
  printed = printed;
  no_model = told_no_model problem versions run (tells problem plan versions run recorded);
}

-- ---- the bytes decide one answer

pub spells : (bytes : List ℕ) (problem : Stated) → spelled_problem bytes ≡ Ok problem → problem_of bytes ≡ Ok problem
spells bytes problem = by (nat_lt most_bytes (length bytes))
  where
    by : (b : Bool) → elim b as (λ b. Result Stated Place) [ true ↦ Err (place most_bytes TooLong) | false ↦ problem_of bytes ] ≡ Ok problem → problem_of bytes ≡ Ok problem
    by true e = cc
    by false e = e

pub one_problem : (bytes : List ℕ) (problem other : Stated) → spelled_problem bytes ≡ Ok problem → spelled_problem bytes ≡ Ok other → problem ≡ other
one_problem bytes problem other e f = let both : Ok problem ≡ Ok other = sym e ∙ f in cc

one_text : (plan : Plan) (bytes : List ℕ) (o p : Outcome) (text other : List ℕ) → plan.finders ≡ 0 → SpellNeverSpent plan bytes → HasRun plan o text bytes → HasRun plan p other bytes → (o ≡ p) × (text ≡ other)
one_text plan bytes o p text other none never h k =
    let problem : h.problem ≡ k.problem = one_problem bytes h.problem k.problem h.is_read k.is_read in
    let run : h.run ≡ k.run = one_record k.problem plan (read_problem bytes k.problem (spells bytes k.problem k.is_read)) (never k.problem k.is_read) h.versions k.versions h.run k.run
    (subst (λ (p : Stated). IsRecord p plan h.versions h.run) problem (alone_recorded h.problem plan h.versions h.run none h.recorded))
    (alone_recorded k.problem plan k.versions k.run none k.recorded) in
    (sym h.ended ∙ ap (λ (r : RunValue). r.outcome) run ∙ k.ended, h.printed ∙ (λ j. run_text (problem j).symbols (run j)) ∙ sym k.printed)

pub both_refused : (bytes : List ℕ) (p q : Place) → spelled_problem bytes ≡ Err p → spelled_problem bytes ≡ Err q → p ≡ q
both_refused bytes p q e f = let both : Err p ≡ Err q = sym e ∙ f in cc

run_or_refused : (plan : Plan) (bytes : List ℕ) (o : Outcome) (text : List ℕ) (p : Place) → HasRun plan o text bytes → spelled_problem bytes ≡ Err p → ⊥
run_or_refused plan bytes o text p h e = let both : Ok h.problem ≡ Err p = sym h.is_read ∙ e in cc

-- where no finder runs beside the prover, and no search of the one finder has more nodes than the budget
pub one_prove_answer : (plan : Plan) (bytes : List ℕ) (a b : Answer) → plan.finders ≡ 0 → SpellNeverSpent plan bytes → IsProveAnswer plan bytes a → IsProveAnswer plan bytes b → a ≡ b
one_prove_answer plan bytes (Ran o text) (Ran p other) none never h k = let same = one_text plan bytes o p text other none never h k in λ j. Ran (same.0 j) (same.1 j)
one_prove_answer plan bytes (Ran o text) (InputRefused p) none never h k = absurd (run_or_refused plan bytes o text p h k)
one_prove_answer plan bytes (InputRefused p) (Ran o text) none never h k = absurd (run_or_refused plan bytes o text p k h)
one_prove_answer plan bytes (InputRefused p) (InputRefused q) none never h k = ap InputRefused (both_refused bytes p q h k)
one_prove_answer plan bytes (ProofChecked m) b none never h k = absurd h
one_prove_answer plan bytes (NotAProof m) b none never h k = absurd h
one_prove_answer plan bytes (Model m) b none never h k = absurd h
one_prove_answer plan bytes (Benched run) b none never h k = absurd h
one_prove_answer plan bytes WordsRefused b none never h k = absurd h
one_prove_answer plan bytes ReadFault b none never h k = absurd h
one_prove_answer plan bytes OutOfMemory b none never h k = absurd h
one_prove_answer plan bytes (Ran o text) (ProofChecked m) none never h k = absurd k
one_prove_answer plan bytes (Ran o text) (NotAProof m) none never h k = absurd k
one_prove_answer plan bytes (Ran o text) (Model m) none never h k = absurd k
one_prove_answer plan bytes (Ran o text) (Benched run) none never h k = absurd k
one_prove_answer plan bytes (Ran o text) WordsRefused none never h k = absurd k
one_prove_answer plan bytes (Ran o text) ReadFault none never h k = absurd k
one_prove_answer plan bytes (Ran o text) OutOfMemory none never h k = absurd k
one_prove_answer plan bytes (InputRefused p) (ProofChecked m) none never h k = absurd k
one_prove_answer plan bytes (InputRefused p) (NotAProof m) none never h k = absurd k
one_prove_answer plan bytes (InputRefused p) (Model m) none never h k = absurd k
one_prove_answer plan bytes (InputRefused p) (Benched run) none never h k = absurd k
one_prove_answer plan bytes (InputRefused p) WordsRefused none never h k = absurd k
one_prove_answer plan bytes (InputRefused p) ReadFault none never h k = absurd k
one_prove_answer plan bytes (InputRefused p) OutOfMemory none never h k = absurd k
