-- The answer to bytes of whose clauses a model is sought.
use Rattle.std.specs.Prelude.{◌≡◌, ℕ, List, Option, Some, None, Ok, Err}
use Rattle.sc_input_rules.specs.Problem.{Stated}
use Rattle.sc_top.specs.Runs.{spelled_problem}
use Rattle.sc_top.specs.Models.{IsModelled, IsWithin}
use Rattle.sc_top.specs.Smallest.{IsSmallestFound}
use Rattle.sc_top.specs.declared.answer.Modelled.{Modelled}
use Rattle.sc_top.specs.declared.answer.Answer.{Answer}
use Rattle.sc_top.specs.declared.answer.Answer.TheVariants.{ProofChecked, NotAProof, Ran, Model, Benched, InputRefused, WordsRefused, ReadFault, OutOfMemory}

-- what becomes of the search at the size alone, or at the sizes from it up to the last one, where that is given
abbrev pub IsFoundIn : Stated → ℕ → Option ℕ → ℕ → Modelled → Type 0
IsFoundIn problem size None nodes m = IsModelled problem size nodes m × IsWithin problem size m
IsFoundIn problem size (Some to) nodes m = IsSmallestFound problem size to nodes m

-- the bytes spell a problem of which this becomes
pub record HasModelled (size : ℕ) (upto : Option ℕ) (nodes : ℕ) (m : Modelled) (bytes : List ℕ) : Type 0 where
  pub problem : Stated
  pub is_read : spelled_problem bytes ≡ Ok problem
  pub found : IsFoundIn problem size upto nodes m

-- an answer to the bytes, where a model of their clauses is sought: where the budget is spent another may be one too
abbrev pub IsModelAnswer : ℕ → Option ℕ → ℕ → List ℕ → Answer → Type 0
IsModelAnswer size upto nodes bytes (ProofChecked n) = ⊥
IsModelAnswer size upto nodes bytes (NotAProof k) = ⊥
IsModelAnswer size upto nodes bytes (Ran o text) = ⊥
IsModelAnswer size upto nodes bytes (Model m) = HasModelled size upto nodes m bytes
IsModelAnswer size upto nodes bytes (Benched run) = ⊥
IsModelAnswer size upto nodes bytes (InputRefused p) = spelled_problem bytes ≡ Err p
IsModelAnswer size upto nodes bytes WordsRefused = ⊥
IsModelAnswer size upto nodes bytes ReadFault = ⊥
IsModelAnswer size upto nodes bytes OutOfMemory = ⊥
