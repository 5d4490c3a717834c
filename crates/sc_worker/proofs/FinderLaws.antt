-- A finder's answers, candidate by candidate, and what its versions are.
use Rattle.std.proofs.Common.{◌≡◌, ◌∙◌, sym, ap, refl, ℕ, suc, ◌-◌, ◌==◌, Bool, true, false, if◌then◌else◌, List, [], ◌∷◌, ◌++◌, length, take, filter, Option, Some, None, slice_get, get_or}
use Rattle.std.specs.List.{All, AllByRecursion}
use Rattle.std.proofs.lemmas.List.Elements.{All-from_recursion, recursion_from_All, All-push, All-nil, All-take, All-filter, All-weaker, Contains-get_or, filter_map-append}
use Rattle.sc_term.specs.declared.Numbered.{Numbered}
use Rattle.sc_term.specs.Numbering.{numbered}
use Rattle.sc_input_rules.specs.Problem.{Stated}
use Rattle.sc_input_rules.specs.WellFormed.{IsOver, IsProblem}
use Rattle.sc_interp.specs.declared.plain.Claim.{Claim}
use Rattle.sc_interp.specs.Structure.{Structure, IsStructure, AreTablesOf}
use Rattle.sc_interp.specs.Versions.{ClaimedStructure, IsVersion}
use Rattle.sc_find.specs.Models.{IsFirstModel}
use Rattle.sc_find_laws.proofs.ModelLaws.{found_models_true}
use Rattle.sc_core_rules.specs.Start.{input_clauses}
use Rattle.sc_core_rules.proofs.RunLaws.{input_stands}
use Rattle.sc_worker.specs.declared.plan.Plan.{Plan}
use Rattle.sc_worker.specs.Plans.{size_of_finder}
use Rattle.sc_worker.specs.FinderList.{is_light, candidates_of, with_claim, task_for, MayBeTried, MayBeSkipped, version_with, Answers, all_worked, joins, skips, claims_after, versions_of}
use Rattle.sc_worker.proofs.TryingLaws.{first_is_true, input_over, task_over}

-- ---- answers, one after another

pub claims_append : (claims : List Claim) (rs ss : List (Option ClaimedStructure)) → claims_after claims (rs ++ ss) ≡ claims_after (claims_after claims rs) ss
claims_append claims [] ss = refl
claims_append claims (None ∷ rs) ss = claims_append claims rs ss
claims_append claims (Some v ∷ rs) ss = claims_append v.claims rs ss

pub versions_append : (rs ss : List (Option ClaimedStructure)) → versions_of (rs ++ ss) ≡ versions_of rs ++ versions_of ss
versions_append rs ss = filter_map-append (λ (answer : Option ClaimedStructure). answer) rs ss

-- the claims after one candidate more that joins, or is skipped
pub claims_after_join : (claims : List Claim) (rs : List (Option ClaimedStructure)) (v : ClaimedStructure) → claims_after claims (rs ++ Some v ∷ []) ≡ v.claims
claims_after_join claims rs v = claims_append claims rs (Some v ∷ [])

pub claims_after_skip : (claims : List Claim) (rs : List (Option ClaimedStructure)) → claims_after claims (rs ++ None ∷ []) ≡ claims_after claims rs
claims_after_skip claims rs = claims_append claims rs (None ∷ [])

module _ (problem : Stated) (size budget : ℕ) where
  -- answers for some candidates, and then for others from the claims after them
  pub answers_append : (claims : List Claim) (ps qs : List Numbered) (rs ss : List (Option ClaimedStructure)) → Answers problem size budget claims ps rs
      → Answers problem size budget (claims_after claims rs) qs ss → Answers problem size budget claims (ps ++ qs) (rs ++ ss)
  answers_append claims ps qs rs ss all_worked two = two
  answers_append claims ps qs rs ss (joins tried first structure one) two = joins tried first structure (answers_append _ _ qs _ ss one two)
  answers_append claims ps qs rs ss (skips reason one) two = skips reason (answers_append _ _ qs _ ss one two)

  -- one candidate more that joins
  pub answers_join : (claims : List Claim) (ps : List Numbered) (rs : List (Option ClaimedStructure)) (p : Numbered) (t : Structure) → Answers problem size budget claims ps rs
      → MayBeTried (task_for problem size (with_claim (claims_after claims rs) p)) → IsFirstModel (task_for problem size (with_claim (claims_after claims rs) p)) None t → IsStructure t
      → Answers problem size budget claims (ps ++ p ∷ []) (rs ++ Some (version_with t (with_claim (claims_after claims rs) p)) ∷ [])
  answers_join claims ps rs p t h tried first structure =
      answers_append claims ps (p ∷ []) rs (Some (version_with t (with_claim (claims_after claims rs) p)) ∷ []) h (joins tried first structure all_worked)

  -- one candidate more that is skipped
  pub answers_skip : (claims : List Claim) (ps : List Numbered) (rs : List (Option ClaimedStructure)) (p : Numbered) → Answers problem size budget claims ps rs
      → MayBeSkipped budget (task_for problem size (with_claim (claims_after claims rs) p)) → Answers problem size budget claims (ps ++ p ∷ []) (rs ++ None ∷ [])
  answers_skip claims ps rs p h reason = answers_append claims ps (p ∷ []) rs (None ∷ []) h (skips reason all_worked)

  -- there are as many answers as candidates
  pub length_of_answers : (claims : List Claim) (ps : List Numbered) (rs : List (Option ClaimedStructure)) → Answers problem size budget claims ps rs → length rs ≡ length ps
  length_of_answers claims ps rs all_worked = refl
  length_of_answers claims ps rs (joins tried first structure one) = ap suc (length_of_answers _ _ _ one)
  length_of_answers claims ps rs (skips reason one) = ap suc (length_of_answers _ _ _ one)

-- ---- versions

-- the claim is an input clause with its number
abbrev pub IsInputClaim : Stated → Claim → Type 0
IsInputClaim problem claim = numbered problem.inputs claim.number ≡ Some claim.clause

-- the candidate is an input clause with its number
abbrev pub IsInputClause : Stated → Numbered → Type 0
IsInputClause problem p = numbered problem.inputs p.number ≡ Some p.clause

-- a version of that size over the problem's symbols, whose claims are input clauses
pub record IsPublished (problem : Stated) (size : ℕ) (v : ClaimedStructure) : Type 0 where
  pub version : IsVersion v
  pub over : AreTablesOf problem.symbols v.tables
  pub size_is : v.tables.size ≡ size
  pub inputs : All (IsInputClaim problem) v.claims

numbered_there : {X : Type 0} (xs : List X) (n : ℕ) (x : X) → numbered xs n ≡ Some x → slice_get xs (n - 1) ≡ Some x
numbered_there {X} xs n x e = by (n == 0) refl
  where
    by : (b : Bool) → (n == 0) ≡ b → slice_get xs (n - 1) ≡ Some x
    by true is = let none : ◌≡◌ {A = Option X} None (Some x) = sym (ap (λ (b : Bool). if b then None else slice_get xs (n - 1)) is) ∙ e in absurd cc
    by false is = sym (ap (λ (b : Bool). if b then None else slice_get xs (n - 1)) is) ∙ e

claim_over : (problem : Stated) (claim : Claim) → IsProblem problem → IsInputClaim problem claim → IsOver problem.symbols claim.clause
claim_over problem claim is e = input_over problem (claim.number - 1) claim.clause is (numbered_there problem.inputs claim.number claim.clause e)

module _ (problem : Stated) (size budget : ℕ) (is : IsProblem problem) where
  published : (claims : List Claim) (t : Structure) → All (IsInputClaim problem) claims → IsFirstModel (task_for problem size claims) None t → IsStructure t → IsPublished problem size (version_with t claims)
  published claims t inputs first structure =
      let over = All-weaker (IsInputClaim problem) (λ (claim : Claim). IsOver problem.symbols claim.clause) (λ claim e. claim_over problem claim is e) claims inputs in
      record {
        version = record { tables = structure; claims = first_is_true (task_for problem size claims) t claims found_models_true (task_over problem size claims is over) refl first };
        over = first.tables.over;
        size_is = first.tables.size;
        inputs = inputs;
      }

  each_published : (claims : List Claim) (ps : List Numbered) (rs : List (Option ClaimedStructure)) → Answers problem size budget claims ps rs
      → AllByRecursion (IsInputClause problem) ps → All (IsInputClaim problem) claims → AllByRecursion (IsPublished problem size) (versions_of rs)
  each_published claims ps rs all_worked inputs so_far = tt
  each_published claims ps rs (joins {p} {ps = qs} {t} {answers} tried first structure one) inputs so_far =
      let now : All (IsInputClaim problem) (with_claim claims p) = All-push (IsInputClaim problem) claims (record { number = p.number; clause = p.clause }) so_far inputs.0 in
      (published (with_claim claims p) t now first structure, each_published (with_claim claims p) qs answers one inputs.1 now)
  each_published claims ps rs (skips {p} {ps = qs} {answers} reason one) inputs so_far = each_published claims qs answers one inputs.1 so_far

  -- the versions for the answers that candidates of the input have
  pub versions_published : (ps : List Numbered) (rs : List (Option ClaimedStructure)) → All (IsInputClause problem) ps → Answers problem size budget [] ps rs → All (IsPublished problem size) (versions_of rs)
  versions_published ps rs inputs h =
      All-from_recursion (IsPublished problem size) (versions_of rs)
      (each_published [] ps rs h (recursion_from_All (IsInputClause problem) ps inputs) (All-nil (IsInputClaim problem)))

-- candidates are input clauses with their numbers
pub candidates_are_inputs : (problem : Stated) (plan : Plan) → All (IsInputClause problem) (candidates_of problem plan)
candidates_are_inputs problem plan =
    All-take (IsInputClause problem) plan.candidates (filter is_light (input_clauses problem))
    (All-filter is_light (IsInputClause problem) (input_clauses problem)
    (λ k d lt. input_stands problem (get_or (input_clauses problem) k d) (Contains-get_or (input_clauses problem) k d lt)))

-- what finder f publishes for its first c candidates
pub finder_publishes : (problem : Stated) (plan : Plan) (f c : ℕ) (rs : List (Option ClaimedStructure)) → IsProblem problem
    → Answers problem (size_of_finder plan f) plan.nodes [] (take c (candidates_of problem plan)) rs → All (IsPublished problem (size_of_finder plan f)) (versions_of rs)
finder_publishes problem plan f c rs is h =
    versions_published problem (size_of_finder plan f) plan.nodes is (take c (candidates_of problem plan)) rs
    (All-take (IsInputClause problem) c (candidates_of problem plan) (candidates_are_inputs problem plan)) h
