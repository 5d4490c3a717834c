-- Where no search is spent, a finder's answers are decided.
use Rattle.std.proofs.Common.{◌≡◌, ◌∙◌, sym, ap, subst, refl, ℕ, zero, suc, inl, inr, List, [], ◌∷◌, ◌++◌, length, take, drop, Option, Some, None, slice_get, append_assoc, arith}
use Rattle.std.proofs.lemmas.List.{take-append-drop}
use Rattle.sc_term.specs.declared.Numbered.{Numbered}
use Rattle.sc_input_rules.specs.Problem.{Stated}
use Rattle.sc_interp.specs.declared.plain.Claim.{Claim}
use Rattle.sc_interp.specs.Structure.{Structure}
use Rattle.sc_interp.specs.Versions.{ClaimedStructure}
use Rattle.sc_find.specs.Models.{Task, IsFirstModel, ExceedsBudget}
use Rattle.sc_worker.specs.declared.plan.Plan.{Plan}
use Rattle.sc_worker.specs.Plans.{size_of_finder}
use Rattle.sc_worker.specs.FinderList.{candidates_of, with_claim, task_for, MayBeTried, MayBeSkipped, version_with, Answers, all_worked, joins, skips, claims_after, IsWide, IsWork, IsNeverSpent}
use Rattle.sc_worker.proofs.FinderLaws.{answers_append, claims_append, length_of_answers}
use Rattle.sc_worker.proofs.OneModel.{first_model_is_one}

-- a task that has a first model may be skipped only where its search is spent
not_skipped : (budget : ℕ) (task : Task) (t : Structure) → MayBeTried task → IsFirstModel task None t → ¬ ExceedsBudget task None budget → ¬ MayBeSkipped budget task
not_skipped budget task t tried first never (inl many) = omega (arith, tried, many)
not_skipped budget task t tried first never (inr (again, inl none)) = none first.cells first.values first.are_cells first.model
not_skipped budget task t tried first never (inr (again, inr spent)) = never spent

module _ (problem : Stated) (size budget : ℕ) where
  abbrev task_with : List Claim → Numbered → Task
  task_with claims p = task_for problem size (with_claim claims p)

  -- some answers of the first candidates end with these claims
  record IsReached (front : List Numbered) (claims : List Claim) : Type 0 where
    answers : List (Option ClaimedStructure)
    finds : Answers problem size budget [] front answers
    claims_are : claims_after [] answers ≡ claims

  module _ (all : List Numbered)
      (never : (front rest : List Numbered) (rs : List (Option ClaimedStructure)) (p : Numbered) → front ++ p ∷ rest ≡ all → Answers problem size budget [] front rs
      → MayBeTried (task_with (claims_after [] rs) p) → ¬ ExceedsBudget (task_with (claims_after [] rs) p) None budget) where
    not_spent : (front rest : List Numbered) (claims : List Claim) (p : Numbered) → IsReached front claims → front ++ p ∷ rest ≡ all
        → MayBeTried (task_with claims p) → ¬ ExceedsBudget (task_with claims p) None budget
    not_spent front rest claims p r e =
        subst (λ (cs : List Claim). MayBeTried (task_with cs p) → ¬ ExceedsBudget (task_with cs p) None budget) r.claims_are (never front rest r.answers p e r.finds)

    reach_one : (front : List Numbered) (claims : List Claim) (p : Numbered) (answer : Option ClaimedStructure) → IsReached front claims
        → Answers problem size budget claims (p ∷ []) (answer ∷ []) → IsReached (front ++ p ∷ []) (claims_after claims (answer ∷ []))
    reach_one front claims p answer r one = record {
      answers = r.answers ++ answer ∷ [];
      finds = answers_append problem size budget [] front (p ∷ []) r.answers (answer ∷ []) r.finds
          (subst (λ (cs : List Claim). Answers problem size budget cs (p ∷ []) (answer ∷ [])) (sym r.claims_are) one);
      claims_are = claims_append [] r.answers (answer ∷ []) ∙ ap (λ (cs : List Claim). claims_after cs (answer ∷ [])) r.claims_are;
    }

    moved : (front qs tail : List Numbered) (p : Numbered) → front ++ p ∷ (qs ++ tail) ≡ all → (front ++ p ∷ []) ++ (qs ++ tail) ≡ all
    moved front qs tail p e = append_assoc front (p ∷ []) (qs ++ tail) ∙ e

    one_list : (front tail : List Numbered) (claims : List Claim) (ps : List Numbered) (rs ss : List (Option ClaimedStructure))
        → Answers problem size budget claims ps rs → Answers problem size budget claims ps ss → IsReached front claims → front ++ (ps ++ tail) ≡ all → rs ≡ ss
    one_list front tail claims ps rs ss all_worked all_worked r e = refl
    one_list front tail claims ps rs ss (joins {p} {ps = qs} {t} {answers = xs} tried first structure one) (joins {t = u} {answers = ys} retried second building two) r e =
        let same : t ≡ u = first_model_is_one (task_with claims p) None t u structure building first second in
        let now : IsReached (front ++ p ∷ []) (with_claim claims p) = reach_one front claims p (Some (version_with t (with_claim claims p))) r (joins tried first structure all_worked) in
        let rest : xs ≡ ys = one_list (front ++ p ∷ []) tail (with_claim claims p) qs xs ys one two now (moved front qs tail p e) in
        λ i. Some (version_with (same i) (with_claim claims p)) ∷ rest i
    one_list front tail claims ps rs ss (joins {p} {ps = qs} {t} tried first structure one) (skips reason two) r e =
        absurd (not_skipped budget (task_with claims p) t tried first (not_spent front (qs ++ tail) claims p r e tried) reason)
    one_list front tail claims ps rs ss (skips {p} {ps = qs} reason one) (joins {t = u} tried second building two) r e =
        absurd (not_skipped budget (task_with claims p) u tried second (not_spent front (qs ++ tail) claims p r e tried) reason)
    one_list front tail claims ps rs ss (skips {p} {ps = qs} {answers = xs} reason one) (skips {answers = ys} again two) r e =
        let now : IsReached (front ++ p ∷ []) claims = reach_one front claims p None r (skips reason all_worked) in
        let rest : xs ≡ ys = one_list (front ++ p ∷ []) tail claims qs xs ys one two now (moved front qs tail p e) in
        λ i. None ∷ rest i

-- ---- a finder

front_of : {X : Type 0} (xs ys : List X) → take (length xs) (xs ++ ys) ≡ xs
front_of [] ys = refl
front_of (x ∷ xs) ys = ap (λ l. x ∷ l) (front_of xs ys)

behind_front : {X : Type 0} (xs ys : List X) (x : X) → slice_get (xs ++ x ∷ ys) (length xs) ≡ Some x
behind_front [] ys x = refl
behind_front (z ∷ xs) ys x = behind_front xs ys x

-- two lists of answers for the same first candidates are one
pub answers_are_one : (problem : Stated) (plan : Plan) (f c : ℕ) (rs ss : List (Option ClaimedStructure)) → IsNeverSpent problem plan f → ¬ IsWide problem plan f
    → Answers problem (size_of_finder plan f) plan.nodes [] (take c (candidates_of problem plan)) rs
    → Answers problem (size_of_finder plan f) plan.nodes [] (take c (candidates_of problem plan)) ss → rs ≡ ss
answers_are_one problem plan f c rs ss never narrow h k =
    one_list problem (size_of_finder plan f) plan.nodes (candidates_of problem plan) along [] (drop c (candidates_of problem plan)) [] (take c (candidates_of problem plan)) rs ss h k
    (record { answers = []; finds = all_worked; claims_are = refl }) (take-append-drop c (candidates_of problem plan))
  where
    along : (front rest : List Numbered) (qs : List (Option ClaimedStructure)) (p : Numbered) → front ++ p ∷ rest ≡ candidates_of problem plan
        → Answers problem (size_of_finder plan f) plan.nodes [] front qs → MayBeTried (task_for problem (size_of_finder plan f) (with_claim (claims_after [] qs) p))
        → ¬ ExceedsBudget (task_for problem (size_of_finder plan f) (with_claim (claims_after [] qs) p)) None plan.nodes
    along front rest qs p e finds =
        let is : front ≡ take (length front) (candidates_of problem plan) = sym (front_of front (p ∷ rest)) ∙ ap (take (length front)) e in
        let here : slice_get (candidates_of problem plan) (length front) ≡ Some p = ap (λ (l : List Numbered). slice_get l (length front)) (sym e) ∙ behind_front front rest p in
        never narrow (length front) qs p (subst (λ (l : List Numbered). Answers problem (size_of_finder plan f) plan.nodes [] l qs) is finds) here

no_answers : (problem : Stated) (size budget : ℕ) (rs : List (Option ClaimedStructure)) → Answers problem size budget [] [] rs → rs ≡ []
no_answers problem size budget [] h = refl
no_answers problem size budget (r ∷ rs) h = let long = length_of_answers problem size budget [] [] (r ∷ rs) h in absurd (omega (arith, long))

-- the same of the work of a finder
pub work_is_one : (problem : Stated) (plan : Plan) (f c : ℕ) (rs ss : List (Option ClaimedStructure)) → IsNeverSpent problem plan f
    → IsWork problem plan f c rs → IsWork problem plan f c ss → rs ≡ ss
work_is_one problem plan f zero rs ss never h k =
    no_answers problem (size_of_finder plan f) plan.nodes rs h.finds ∙ sym (no_answers problem (size_of_finder plan f) plan.nodes ss k.finds)
work_is_one problem plan f (suc c) rs ss never h k =
    answers_are_one problem plan f (suc c) rs ss never (λ wide. let none = h.wide wide in absurd (omega (arith, none))) h.finds k.finds
