-- The answer to a run of a ladder.
use Rattle.std.proofs.Common.{◌≡◌, ◌∙◌, sym, ap, subst, ℕ, ◌+◌, List, [], ◌++◌, length, append_assoc, add-one, ◌≤◌, ◌⊎◌, inl, inr, Result}
use Rattle.std.specs.Prelude.{Ok, Err, get_or}
use Rattle.sc_cells.specs.Listing.{in_turn}
use Rattle.sc_input_rules.specs.declared.fault.Place.{Place}
use Rattle.sc_input_rules.specs.Problem.{Stated}
use Rattle.sc_input_rules.specs.Reading.{problem_of}
use Rattle.sc_input_rules.proofs.ReadProblems.{read_problem}
use Rattle.sc_input.specs.declared.refusal.InputError.{InputError}
use Rattle.sc_input.specs.declared.refusal.InputError.TheVariants as error
use Rattle.sc_input.specs.Refusal.{Refuses}
use Rattle.sc_top.specs.Answers.{most_bytes, answer_to}
use Rattle.sc_core_rules.specs.Selection.{Seen}
use Rattle.sc_text_run_rules.specs.RunValue.{RunValue}
use Rattle.sc_world.specs.Recorded.{IsRecord}
use Rattle.sc_world.proofs.OneInline.{one_inline}
use Rattle.sc_top.specs.declared.answer.BenchRun.{BenchRun}
use Rattle.sc_top.specs.declared.answer.Answer.{Answer}
use Rattle.sc_top.specs.declared.answer.Answer.TheVariants.{Benched, InputRefused, OutOfMemory}
use Rattle.sc_top.specs.Runs.{spelled_problem, SpellNeverSpent}
use Rattle.sc_top.specs.Ladder.{rung, ladder, bench_plan, HasBench, IsBenchAnswer}
use Rattle.sc_top.proofs.ProveLaws.{told_no_model, few_spell, spells, one_problem, both_refused}

pub has_bench : (rungs : ℕ) (told : BenchRun) (problem : Stated) (versions : Seen) (run : RunValue) → spelled_problem (ladder rungs) ≡ Ok problem → IsRecord problem bench_plan versions run
    → told.rungs ≡ rungs → told.outcome ≡ run.outcome → told.given ≡ length run.given → told.kept ≡ length run.kept → told.versions ≡ length (get_or versions 0 [])
    → told.lines ≡ length run.proof → HasBench rungs told
has_bench rungs told problem versions run read recorded of_rungs ended given kept published lines = record {
  problem = problem;
  is_read = read;
  versions = versions;
  run = run;
  recorded = recorded;
  of_rungs = of_rungs;
  ended = ended;
  given = given;
  kept = kept;
  published = published;
  lines = lines;
  no_model = λ is. told_no_model problem versions run recorded.tells (sym ended ∙ is);
}

-- the ladder spells what its text does
pub ladder_spells : (rungs : ℕ) (text : List ℕ) (r : Result Stated Place) → text ≡ ladder rungs → length text ≤ most_bytes → problem_of text ≡ r → spelled_problem (ladder rungs) ≡ r
ladder_spells rungs text r e le read = subst (λ (t : List ℕ). spelled_problem t ≡ r) e (few_spell text r le read)

pub ladder_refused : (rungs : ℕ) (text : List ℕ) (e : InputError) (a : Answer) → text ≡ ladder rungs → length text ≤ most_bytes → Refuses e (problem_of text) → a ≡ answer_to e
    → IsBenchAnswer rungs a ⊎ (a ≡ OutOfMemory)
ladder_refused rungs text (error.Refused p) a is le refused e = inl (subst (IsBenchAnswer rungs) (sym e) (ladder_spells rungs text (Err p) is le refused))
ladder_refused rungs text error.OutOfMemory a is le refused e = inr e

-- one rung more
pub rung_more : (n : ℕ) (front old new : List ℕ) → old ≡ front ++ in_turn rung n → new ≡ old ++ rung n → new ≡ front ++ in_turn rung (n + 1)
rung_more n front old new before added =
    added ∙ ap (λ (text : List ℕ). text ++ rung n) before ∙ append_assoc front (in_turn rung n) (rung n)
    ∙ ap (λ (m : ℕ). front ++ in_turn rung m) (sym (add-one n))

-- ---- a ladder has one answer

one_bench : (rungs : ℕ) (told other : BenchRun) → SpellNeverSpent bench_plan (ladder rungs) → HasBench rungs told → HasBench rungs other → told ≡ other
one_bench rungs told other never h k =
    let problem : h.problem ≡ k.problem = one_problem (ladder rungs) h.problem k.problem h.is_read k.is_read in
    let both : (h.versions ≡ k.versions) × (h.run ≡ k.run) =
    one_inline k.problem bench_plan (read_problem (ladder rungs) k.problem (spells (ladder rungs) k.problem k.is_read)) (never k.problem k.is_read) h.versions k.versions h.run k.run
    (subst (λ (p : Stated). IsRecord p bench_plan h.versions h.run) problem h.recorded) k.recorded in
    let rungs_told : told.rungs ≡ other.rungs = h.of_rungs ∙ sym k.of_rungs in
    let outcome : told.outcome ≡ other.outcome = h.ended ∙ ap (λ (r : RunValue). r.outcome) both.1 ∙ sym k.ended in
    let given : told.given ≡ other.given = h.given ∙ ap (λ (r : RunValue). length r.given) both.1 ∙ sym k.given in
    let kept : told.kept ≡ other.kept = h.kept ∙ ap (λ (r : RunValue). length r.kept) both.1 ∙ sym k.kept in
    let versions : told.versions ≡ other.versions = h.published ∙ ap (λ (v : Seen). length (get_or v 0 [])) both.0 ∙ sym k.published in
    let lines : told.lines ≡ other.lines = h.lines ∙ ap (λ (r : RunValue). length r.proof) both.1 ∙ sym k.lines in
    λ i. record { rungs = rungs_told i; outcome = outcome i; given = given i; kept = kept i; versions = versions i; lines = lines i }

run_or_refused : (rungs : ℕ) (told : BenchRun) (p : Place) → HasBench rungs told → spelled_problem (ladder rungs) ≡ Err p → ⊥
run_or_refused rungs told p h e = let both : Ok h.problem ≡ Err p = sym h.is_read ∙ e in cc

-- where no search of the finder has more nodes than the budget
pub one_bench_answer : (rungs : ℕ) (a b : Answer) → SpellNeverSpent bench_plan (ladder rungs) → IsBenchAnswer rungs a → IsBenchAnswer rungs b → a ≡ b
one_bench_answer rungs (Benched told) (Benched other) never h k = ap Benched (one_bench rungs told other never h k)
one_bench_answer rungs (Benched told) (InputRefused p) never h k = absurd (run_or_refused rungs told p h k)
one_bench_answer rungs (InputRefused p) (Benched told) never h k = absurd (run_or_refused rungs told p k h)
one_bench_answer rungs (InputRefused p) (InputRefused q) never h k = ap InputRefused (both_refused (ladder rungs) p q h k)
one_bench_answer rungs (Benched told) b never h k = absurd k
one_bench_answer rungs (InputRefused p) b never h k = absurd k
one_bench_answer rungs a b never h k = absurd h
