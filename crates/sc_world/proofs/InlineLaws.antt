-- A run that has ended had a finder that worked between its turns.
use Rattle.std.proofs.Common.{◌≡◌, ◌∙◌, sym, ap, subst, refl, ℕ, ◌<◌, ◌≤◌, inl, inr, List, [], ◌∷◌, length, drop, min, Option, Some, arith}
use Rattle.std.specs.Prelude.{◌≢◌}
use Rattle.std.specs.List.{AllByRecursion}
use Rattle.std.proofs.lemmas.List.{drop_all}
use Rattle.sc_term.specs.declared.Numbered.{Numbered}
use Rattle.sc_input_rules.specs.Problem.{Stated}
use Rattle.sc_core_rules.specs.declared.row.GivenRow.{GivenRow}
use Rattle.sc_core_rules.specs.declared.row.Outcome.{Outcome}
use Rattle.sc_core_rules.specs.Order.{Where}
use Rattle.sc_text_run_rules.specs.declared.run.FinderEnd.{FinderEnd}
use Rattle.sc_text_run_rules.specs.RunValue.{RunValue}
use Rattle.sc_core.specs.State.{ProverState}
use Rattle.sc_worker.specs.declared.plan.Plan.{Plan}
use Rattle.sc_worker.specs.FinderList.{candidates_of, versions_of, IsWide, IsWork}
use Rattle.sc_worker.specs.Choosing.{Choice, at_first, IsTooWide}
use Rattle.sc_world.specs.Recorded.{SeesAll, turns_went, EndsInline, IsInline}
use Rattle.sc_world.specs.Steps.{IsEnd}
use Rattle.sc_world.specs.Underway.{went, chooser_after, IsUnderway}
use Rattle.sc_world.proofs.AnswerLaws.{none_left}

-- where some are left, there are some
some_there : {X : Type 0} (n : ℕ) (xs : List X) → drop n xs ≢ [] → 0 < length xs
some_there n [] h = absurd (h (drop_all n [] (omega arith)))
some_there n (x ∷ xs) h = omega arith

module _ (problem : Stated) (plan : Plan) (prover : ProverState) (choice : Choice) (h : IsUnderway (at_first problem plan 1) prover choice) where
  abbrev first : Choice
  first = at_first problem plan 1

  abbrev AreMany : ℕ → Type 0
  AreMany turns = Where (IsTooWide first) (h.worked ≡ 0) (h.worked ≡ min turns (length first.left))

  none_if_wide : IsWide problem plan 1 → h.worked ≡ 0
  none_if_wide wide = by h.many
    where
      by : AreMany (went prover.run.ended (length prover.run.given)) → h.worked ≡ 0
      by (inl k) = k.1
      by (inr k) = absurd (k.0 wide.1)

  work : IsWork problem plan 1 h.worked h.answers
  work = record { within = h.within; wide = none_if_wide; finds = h.finds }

  -- where it isn't wide, as many were worked as turns went on, or all
  as_many : (turns : ℕ) → AreMany turns → (¬ IsWide problem plan 1) → h.worked ≡ min turns (length (candidates_of problem plan))
  as_many turns (inr k) narrow = k.1
  as_many turns (inl k) narrow = by (candidates_of problem plan) refl
    where
      by : (left : List Numbered) → candidates_of problem plan ≡ left → h.worked ≡ min turns (length (candidates_of problem plan))
      by [] e = let none : length (candidates_of problem plan) ≡ 0 = ap (λ (ps : List Numbered). length ps) e in let worked = k.1 in omega (arith, none, worked)
      by (p ∷ ps) e =
          let some : 0 < length (candidates_of problem plan) = subst (λ (qs : List Numbered). 0 < length qs) (sym e) (omega arith) in
          absurd (narrow (some, k.0))

  -- ---- the end

  module _ (end : FinderEnd) where
    ends_now : IsEnd (chooser_after first h.worked h.answers) end → EndsInline problem plan h.worked end
    ends_now (inl k) = inr (narrow, inl (all, k.1))
      where
        most : length first.left ≤ h.worked
        most = none_left h.worked first.left k.0

        all : h.worked ≡ length (candidates_of problem plan)
        all = let within = h.within in let rest = most in omega (arith, within, rest)

        narrow : ¬ IsWide problem plan 1
        narrow wide = let none = none_if_wide wide in let some = wide.0 in let rest = most in omega (arith, none, some, rest)
    ends_now (inr (some, inl k)) = inl ((some_there h.worked first.left some, k.0), k.1)
    ends_now (inr (some, inr k)) = inr ((λ wide. k.0 wide.1), inr (not_all, k.1))
      where
        not_all : h.worked ≢ length (candidates_of problem plan)
        not_all e = some (drop_all h.worked first.left (let same = e in omega (arith, same)))

    pub ends_inline : IsEnd choice end → EndsInline problem plan h.worked end
    ends_inline e = ends_now (subst (λ (c : Choice). IsEnd c end) h.chooses e)

  -- ---- the run

  pub is_inline : (o : Outcome) → prover.run.ended ≡ Some o → (text : RunValue) → text.given ≡ prover.run.given → text.outcome ≡ o
      → (end : FinderEnd) × IsEnd choice end × (text.ends ≡ end ∷ []) → IsInline problem plan text (versions_of h.answers)
  is_inline o ended text given outcome ends = record {
    worked = h.worked;
    answers = h.answers;
    work = work;
    many = as_many (turns_went text.outcome (length text.given)) (subst AreMany same h.many);
    printed = refl;
    looks = subst (AllByRecursion (SeesAll h.answers)) (sym given) h.looks;
    end = ends.0;
    ends = ends_inline ends.0 ends.1;
    told = ends.2;
  }
    where
      same : went prover.run.ended (length prover.run.given) ≡ turns_went text.outcome (length text.given)
      same =
          ap (λ (e : Option Outcome). went e (length prover.run.given)) ended ∙ ap (λ (p : Outcome). turns_went p (length prover.run.given)) (sym outcome)
          ∙ ap (λ (rows : List GivenRow). turns_went text.outcome (length rows)) (sym given)
