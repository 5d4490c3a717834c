-- What a finder may publish for the candidates that it worked.
use Rattle.std.specs.Prelude.{◌≡◌, ◌≤◌, ◌<◌, ◌⊎◌, ℕ, Bool, List, [], ◌∷◌, ◌++◌, Option, Some, None, filter_map, map, filter, take, length, nat_le, slice_get}
use Rattle.sc_term.specs.declared.Clause.{Clause}
use Rattle.sc_term.specs.declared.Numbered.{Numbered}
use Rattle.sc_term.specs.Clause.{weight}
use Rattle.sc_input_rules.specs.Problem.{Stated}
use Rattle.sc_interp.specs.declared.plain.Claim.{Claim}
use Rattle.sc_interp.specs.Structure.{Structure, IsStructure}
use Rattle.sc_interp.specs.Versions.{ClaimedStructure}
use Rattle.sc_cells.specs.Cells.{cell_count}
use Rattle.sc_cells.specs.Ground.{instance_count}
use Rattle.sc_find.specs.Models.{Task, FindsNoModel, IsFirstModel, ExceedsBudget}
use Rattle.sc_core_rules.specs.Start.{input_clauses}
use Rattle.sc_worker.specs.declared.plan.Plan.{Plan}
use Rattle.sc_worker.specs.Plans.{size_of_finder}

-- ---- candidates

-- it weighs at most 100
abbrev pub is_light : Numbered → Bool
is_light p = nat_le (weight p.clause) 100

-- the first input clauses that weigh at most 100
abbrev pub candidates_of : Stated → Plan → List Numbered
candidates_of problem plan = take plan.candidates (filter is_light (input_clauses problem))

-- the candidate is claimed too
abbrev pub with_claim : List Claim → Numbered → List Claim
with_claim claims p = claims ++ record { number = p.number; clause = p.clause } ∷ []

-- the clauses of the claims
abbrev pub claimed_clauses : List Claim → List Clause
claimed_clauses claims = map (λ (claim : Claim). claim.clause) claims

-- an interpretation of the size is asked for in which all claims are true
abbrev pub task_for : Stated → ℕ → List Claim → Task
task_for problem size claims = record { sig = problem.symbols; clauses = claimed_clauses claims; size = size }

-- ---- answers

-- its clauses have at most 200,000 instances
abbrev pub MayBeTried : Task → Type 0
MayBeTried task = instance_count task.clauses task.size ≤ 200000

-- a candidate may be skipped only for one of these reasons: there are too many instances, or there is no model, or a
-- plain search for it has more nodes than the budget
abbrev pub MayBeSkipped : ℕ → Task → Type 0
MayBeSkipped budget task =
    (200000 < instance_count task.clauses task.size) ⊎ (MayBeTried task × (FindsNoModel task None ⊎ ExceedsBudget task None budget))

-- the tables of the first model, with the claims
abbrev pub version_with : Structure → List Claim → ClaimedStructure
version_with t claims = record { tables = t; claims = claims }

-- from these claims the worked candidates have these answers: a candidate that joins has its version, whose tables have an
-- entry in range for each place, and one that is skipped has none
pub data Answers (problem : Stated) (size budget : ℕ) : List Claim → List Numbered → List (Option ClaimedStructure) → Type 0 where
  all_worked : {claims : List Claim} → Answers problem size budget claims [] []
  joins : {claims : List Claim} {p : Numbered} {ps : List Numbered} {t : Structure} {answers : List (Option ClaimedStructure)}
      → MayBeTried (task_for problem size (with_claim claims p))
      → IsFirstModel (task_for problem size (with_claim claims p)) None t
      → IsStructure t
      → Answers problem size budget (with_claim claims p) ps answers
      → Answers problem size budget claims (p ∷ ps) (Some (version_with t (with_claim claims p)) ∷ answers)
  skips : {claims : List Claim} {p : Numbered} {ps : List Numbered} {answers : List (Option ClaimedStructure)}
      → MayBeSkipped budget (task_for problem size (with_claim claims p))
      → Answers problem size budget claims ps answers
      → Answers problem size budget claims (p ∷ ps) (None ∷ answers)

-- the claims after these answers
abbrev pub claims_after : List Claim → List (Option ClaimedStructure) → List Claim
claims_after claims [] = claims
claims_after claims (None ∷ answers) = claims_after claims answers
claims_after claims (Some v ∷ answers) = claims_after v.claims answers

-- the versions that were published for these answers
abbrev pub versions_of : List (Option ClaimedStructure) → List ClaimedStructure
versions_of answers = filter_map (λ answer. answer) answers

-- ---- a finder

-- it has a candidate, and its size more than 4,096 cells
abbrev pub IsWide : Stated → Plan → ℕ → Type 0
IsWide problem plan f = (0 < length (candidates_of problem plan)) × (4096 < cell_count problem.symbols (size_of_finder plan f))

-- finder f worked its first c candidates with these answers; a wide finder works none
pub record IsWork (problem : Stated) (plan : Plan) (f c : ℕ) (answers : List (Option ClaimedStructure)) : Type 0 where
  pub within : c ≤ length (candidates_of problem plan)
  pub wide : IsWide problem plan f → c ≡ 0
  pub finds : Answers problem (size_of_finder plan f) plan.nodes [] (take c (candidates_of problem plan)) answers

-- no search that finder f may make has more nodes than the budget: then its answers are decided
abbrev pub IsNeverSpent : Stated → Plan → ℕ → Type 0
IsNeverSpent problem plan f =
    (¬ IsWide problem plan f) → (c : ℕ) (answers : List (Option ClaimedStructure)) (p : Numbered)
    → Answers problem (size_of_finder plan f) plan.nodes [] (take c (candidates_of problem plan)) answers
    → slice_get (candidates_of problem plan) c ≡ Some p
    → MayBeTried (task_for problem (size_of_finder plan f) (with_claim (claims_after [] answers) p))
    → ¬ ExceedsBudget (task_for problem (size_of_finder plan f) (with_claim (claims_after [] answers) p)) None plan.nodes
