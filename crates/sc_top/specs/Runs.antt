-- The answer to bytes whose problem is to be proved: the text of a run.
use Rattle.std.specs.Prelude.{◌≡◌, ℕ, List, Result, Ok, Err, true, false, length, nat_lt}
use Rattle.sc_input_rules.specs.declared.fault.InputKind.TheVariants.{TooLong}
use Rattle.sc_input_rules.specs.declared.fault.Place.{Place}
use Rattle.sc_input_rules.specs.Faults.{place}
use Rattle.sc_input_rules.specs.Problem.{Stated}
use Rattle.sc_input_rules.specs.Reading.{problem_of}
use Rattle.sc_core_rules.specs.declared.row.Outcome.{Outcome}
use Rattle.sc_core_rules.specs.declared.row.Outcome.TheVariants.{Proof}
use Rattle.sc_text_run_rules.specs.RunValue.{RunValue}
use Rattle.sc_text_run_rules.specs.RunText.{run_text}
use Rattle.sc_core_rules.specs.Selection.{Seen}
use Rattle.sc_worker.specs.declared.plan.Plan.{Plan}
use Rattle.sc_worker.specs.FinderList.{IsNeverSpent}
use Rattle.sc_world.specs.Beside.{IsRecorded}
use Rattle.sc_top.specs.NoModel.{HasNoModel}
use Rattle.sc_top.specs.Answers.{most_bytes}
use Rattle.sc_top.specs.declared.answer.Answer.{Answer}
use Rattle.sc_top.specs.declared.answer.Answer.TheVariants.{ProofChecked, NotAProof, Ran, Model, Benched, InputRefused, WordsRefused, ReadFault, OutOfMemory}

-- the problem that the bytes spell if they aren't too many, or their first fault
abbrev pub spelled_problem : List ℕ → Result Stated Place
spelled_problem bytes = elim (nat_lt most_bytes (length bytes)) [ true ↦ Err (place most_bytes TooLong) | false ↦ problem_of bytes ]

-- The bytes spell a problem, and the text is that of a run of it by the plan, with finders beside the prover where the plan
-- asks for some, which ended so. Where that is with a proof,
-- the input clauses can't all be true.
pub record HasRun (plan : Plan) (o : Outcome) (text : List ℕ) (bytes : List ℕ) : Type 0 where
  pub problem : Stated
  pub is_read : spelled_problem bytes ≡ Ok problem
  pub versions : Seen
  pub run : RunValue
  pub recorded : IsRecorded problem plan versions run
  pub ended : run.outcome ≡ o
  pub printed : text ≡ run_text problem.symbols run
  pub no_model : o ≡ Proof → HasNoModel problem.inputs

-- an answer to the bytes, where the problem that they spell is to be proved by the plan: where a search for a model is
-- spent, or finders run beside the prover, another may be one too
abbrev pub IsProveAnswer : Plan → List ℕ → Answer → Type 0
IsProveAnswer plan bytes (ProofChecked n) = ⊥
IsProveAnswer plan bytes (NotAProof k) = ⊥
IsProveAnswer plan bytes (Ran o text) = HasRun plan o text bytes
IsProveAnswer plan bytes (Model m) = ⊥
IsProveAnswer plan bytes (Benched run) = ⊥
IsProveAnswer plan bytes (InputRefused p) = spelled_problem bytes ≡ Err p
IsProveAnswer plan bytes WordsRefused = ⊥
IsProveAnswer plan bytes ReadFault = ⊥
IsProveAnswer plan bytes OutOfMemory = ⊥

-- no search for a model that the one finder may make of the problem that the bytes spell has more nodes than the budget:
-- then they have one answer, where no finder runs beside the prover
abbrev pub SpellNeverSpent : Plan → List ℕ → Type 0
SpellNeverSpent plan bytes = (problem : Stated) → spelled_problem bytes ≡ Ok problem → IsNeverSpent problem plan 1
