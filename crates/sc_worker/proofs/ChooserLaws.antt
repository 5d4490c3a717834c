-- A chooser goes through the work of its finder.
use Rattle.std.proofs.Common.{◌≡◌, ◌∙◌, sym, ap, subst, refl, ℕ, zero, suc, ◌+◌, ◌<◌, ◌≤◌, inl, inr, List, [], ◌∷◌, ◌++◌, length, take, drop, Option, Some, None, arith}
use Rattle.sc_term.specs.declared.Numbered.{Numbered}
use Rattle.sc_input_rules.specs.Problem.{Stated}
use Rattle.sc_interp.specs.Versions.{ClaimedStructure}
use Rattle.sc_worker.specs.declared.plan.Plan.{Plan}
use Rattle.sc_worker.specs.declared.worked.Skip.{Skip}
use Rattle.sc_worker.specs.declared.worked.Skip.TheVariants as skip
use Rattle.sc_worker.specs.Plans.{size_of_finder}
use Rattle.sc_worker.specs.FinderList.{candidates_of, with_claim, task_for, MayBeSkipped, Answers, all_worked, claims_after, IsWork}
use Rattle.sc_worker.specs.Choosing.{Choice, at_first, after_answers, IsTooWide, IsReasonFor, IsJoined, IsSkipped}
use Rattle.sc_worker.proofs.FinderLaws.{answers_join, answers_skip, claims_after_join, claims_after_skip}

-- the element at c, and what stands before and behind it
record IsSplit {X : Type 0} (xs : List X) (c : ℕ) (x : X) (others : List X) : Type 0 where
  front : take (c + 1) xs ≡ take c xs ++ x ∷ []
  behind : drop (c + 1) xs ≡ others
  within : c + 1 ≤ length xs

split : {X : Type 0} (xs : List X) (c : ℕ) (x : X) (others : List X) → drop c xs ≡ x ∷ others
    → (take (suc c) xs ≡ take c xs ++ x ∷ []) × (drop (suc c) xs ≡ others) × (c < length xs)
split [] zero x others e = absurd cc
split [] (suc c) x others e = absurd cc
split {X} (y ∷ xs) zero x others e =
    let first : y ≡ x = cc in
    let rest : xs ≡ others = cc in
    (ap (λ (z : X). z ∷ []) first, rest, omega arith)
split {X} (y ∷ xs) (suc c) x others e = let s = split xs c x others e in (ap (λ (zs : List X). y ∷ zs) s.0, s.1, (let less = s.2 in omega (arith, less)))

splits : {X : Type 0} (xs : List X) (c : ℕ) (x : X) (others : List X) → drop c xs ≡ x ∷ others → IsSplit xs c x others
splits xs c x others e =
    let s = split xs c x others e in
    let next : suc c ≡ c + 1 = omega arith in
    record {
      front = subst (λ (n : ℕ). take n xs ≡ take c xs ++ x ∷ []) next s.0;
      behind = subst (λ (n : ℕ). drop n xs ≡ others) next s.1;
      within = let less = s.2 in omega (arith, less);
    }

module _ (problem : Stated) (plan : Plan) (f : ℕ) where
  -- before the first candidate
  pub work_at_first : IsWork problem plan f 0 []
  work_at_first = record { within = omega arith; wide = λ _. refl; finds = all_worked }

  pub first_is_after_none : at_first problem plan f ≡ after_answers problem plan f 0 []
  first_is_after_none = refl

  -- the finder worked these candidates, and so has its chooser
  pub record IsAlong (choice : Choice) (c : ℕ) (answers : List (Option ClaimedStructure)) : Type 0 where
    pub choice_is : choice ≡ after_answers problem plan f c answers
    pub work : IsWork problem plan f c answers

  pub along_at_first : IsAlong (at_first problem plan f) 0 []
  along_at_first = record { choice_is = first_is_after_none; work = work_at_first }

  module _ (c : ℕ) (rs : List (Option ClaimedStructure)) (work : IsWork problem plan f c rs) where
    one_joined : (new : Choice) (v : ClaimedStructure) → (¬ IsTooWide (after_answers problem plan f c rs)) → IsJoined (after_answers problem plan f c rs) new v → IsAlong new (c + 1) (rs ++ Some v ∷ [])
    one_joined new v narrow h =
        let s = splits (candidates_of problem plan) c h.candidate h.others h.next in
        let claims : claims_after [] (rs ++ Some v ∷ []) ≡ with_claim (claims_after [] rs) h.candidate
        = claims_after_join [] rs v ∙ ap (λ (u : ClaimedStructure). u.claims) h.version in
        let joined = answers_join problem (size_of_finder plan f) plan.nodes [] (take c (candidates_of problem plan)) rs h.candidate h.tables work.finds h.tried h.first h.structure in
        record {
          choice_is = h.goes_on ∙ (λ i. record { problem = problem; size = size_of_finder plan f; budget = plan.nodes; claims = sym claims i; left = sym s.behind i });
          work = record {
            within = s.within;
            wide = λ wide. absurd (narrow wide.1);
            finds = subst (λ (ps : List Numbered). Answers problem (size_of_finder plan f) plan.nodes [] ps (rs ++ Some v ∷ [])) (sym s.front)
                (subst (λ (u : ClaimedStructure). Answers problem (size_of_finder plan f) plan.nodes [] (take c (candidates_of problem plan) ++ h.candidate ∷ []) (rs ++ Some u ∷ [])) (sym h.version) joined);
          };
        }

    reason_may : (reason : Skip) (budget : ℕ) (p : Numbered) → IsReasonFor budget (task_for problem (size_of_finder plan f) (with_claim (claims_after [] rs) p)) reason
        → MayBeSkipped budget (task_for problem (size_of_finder plan f) (with_claim (claims_after [] rs) p))
    reason_may skip.NoModel budget p h = inr (h.0, inl h.1)
    reason_may skip.Spent budget p h = inr (h.0, inr h.1)
    reason_may skip.Instances budget p h = inl h

    one_skipped : (new : Choice) (reason : Skip) → (¬ IsTooWide (after_answers problem plan f c rs)) → IsSkipped (after_answers problem plan f c rs) new reason → IsAlong new (c + 1) (rs ++ None ∷ [])
    one_skipped new reason narrow h =
        let s = splits (candidates_of problem plan) c h.candidate h.others h.next in
        let skipped = answers_skip problem (size_of_finder plan f) plan.nodes [] (take c (candidates_of problem plan)) rs h.candidate work.finds (reason_may reason plan.nodes h.candidate h.reasons) in
        record {
          choice_is = h.goes_on
              ∙ (λ i. record { problem = problem; size = size_of_finder plan f; budget = plan.nodes; claims = sym (claims_after_skip [] rs) i; left = sym s.behind i });
          work = record {
            within = s.within;
            wide = λ wide. absurd (narrow wide.1);
            finds = subst (λ (ps : List Numbered). Answers problem (size_of_finder plan f) plan.nodes [] ps (rs ++ None ∷ [])) (sym s.front) skipped;
          };
        }

  -- one candidate more joins, or is skipped
  pub along_joined : (c : ℕ) (rs : List (Option ClaimedStructure)) (old new : Choice) (v : ClaimedStructure) → IsAlong old c rs → (¬ IsTooWide old) × IsJoined old new v → IsAlong new (c + 1) (rs ++ Some v ∷ [])
  along_joined c rs old new v is h =
      let at = subst (λ (choice : Choice). (¬ IsTooWide choice) × IsJoined choice new v) is.choice_is h in
      one_joined c rs is.work new v at.0 at.1

  pub along_skipped : (c : ℕ) (rs : List (Option ClaimedStructure)) (old new : Choice) (reason : Skip) → IsAlong old c rs → (¬ IsTooWide old) × IsSkipped old new reason → IsAlong new (c + 1) (rs ++ None ∷ [])
  along_skipped c rs old new reason is h =
      let at = subst (λ (choice : Choice). (¬ IsTooWide choice) × IsSkipped choice new reason) is.choice_is h in
      one_skipped c rs is.work new reason at.0 at.1
