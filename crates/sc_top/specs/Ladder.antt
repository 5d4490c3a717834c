-- The ladder of so many rungs: its text, and the answer to a run of it.
use Rattle.std.specs.Prelude.{◌≡◌, ℕ, ◌+◌, List, [], ◌++◌, Ok, Err, length, get_or, codes, decimal}
use Rattle.sc_cells.specs.Listing.{in_turn}
use Rattle.sc_input_rules.specs.Problem.{Stated}
use Rattle.sc_core_rules.specs.declared.row.Outcome.TheVariants.{Proof}
use Rattle.sc_text_run_rules.specs.RunValue.{RunValue}
use Rattle.sc_core_rules.specs.Selection.{Seen}
use Rattle.sc_worker.specs.declared.plan.Plan.{Plan}
use Rattle.sc_world.specs.Recorded.{IsRecord}
use Rattle.sc_top.specs.NoModel.{HasNoModel}
use Rattle.sc_top.specs.Runs.{spelled_problem}
use Rattle.sc_top.specs.declared.answer.BenchRun.{BenchRun}
use Rattle.sc_top.specs.declared.answer.Answer.{Answer}
use Rattle.sc_top.specs.declared.answer.Answer.TheVariants.{ProofChecked, NotAProof, Ran, Model, Benched, InputRefused, WordsRefused, ReadFault, OutOfMemory}

-- ---- the text

-- from predicate i to the next one
abbrev pub rung : ℕ → List ℕ
rung i = codes "-p" ++ decimal i ++ codes "(x) | p" ++ decimal (i + 1) ++ codes "(x).\n"

-- the clause against predicate n ends the usable list, and in the set of support is that of the first predicate
abbrev pub end_of : ℕ → List ℕ
end_of n = codes "-p" ++ decimal n ++ codes "(a).\nend_of_list.\nlist(sos).\np0(a).\nend_of_list.\n"

-- the rungs from 0 on, and then the end
abbrev pub ladder : ℕ → List ℕ
ladder rungs = codes "set(binary_res).\nlist(usable).\n" ++ in_turn rung rungs ++ end_of rungs

-- ---- the answer

-- what the words `prove --finders 0` ask for
abbrev pub bench_plan : Plan
bench_plan = record { finders = 0; first_size = 2; nodes = 100000; candidates = 128 }

-- The ladder of so many rungs spells a problem, and this is told of a run of it by the plan: how it ended, how many rows of
-- given and of kept clauses it has, how many versions its finder published, and how many lines the proof has. Where it
-- ended with a proof, the input clauses can't all be true.
pub record HasBench (rungs : ℕ) (told : BenchRun) : Type 0 where
  pub problem : Stated
  pub is_read : spelled_problem (ladder rungs) ≡ Ok problem
  pub versions : Seen
  pub run : RunValue
  pub recorded : IsRecord problem bench_plan versions run
  pub of_rungs : told.rungs ≡ rungs
  pub ended : told.outcome ≡ run.outcome
  pub given : told.given ≡ length run.given
  pub kept : told.kept ≡ length run.kept
  pub published : told.versions ≡ length (get_or versions 0 [])
  pub lines : told.lines ≡ length run.proof
  pub no_model : told.outcome ≡ Proof → HasNoModel problem.inputs

-- an answer to the ladder of so many rungs; that it spells a problem isn't said here
abbrev pub IsBenchAnswer : ℕ → Answer → Type 0
IsBenchAnswer rungs (ProofChecked n) = ⊥
IsBenchAnswer rungs (NotAProof k) = ⊥
IsBenchAnswer rungs (Ran o text) = ⊥
IsBenchAnswer rungs (Model m) = ⊥
IsBenchAnswer rungs (Benched run) = HasBench rungs run
IsBenchAnswer rungs (InputRefused p) = spelled_problem (ladder rungs) ≡ Err p
IsBenchAnswer rungs WordsRefused = ⊥
IsBenchAnswer rungs ReadFault = ⊥
IsBenchAnswer rungs OutOfMemory = ⊥
