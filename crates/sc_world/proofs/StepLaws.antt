-- What a run under way keeps, from its start and by each step.
use Rattle.std.proofs.Common.{◌≡◌, ◌∙◌, sym, ap, subst, refl, ℕ, suc, ◌+◌, ◌<◌, ◌≤◌, ◌⊎◌, inl, inr, List, [], ◌∷◌, ◌++◌, length, take, drop, filter, min, Option, Some, None, arith}
use Rattle.std.specs.Prelude.{◌≢◌, ◌^◌}
use Rattle.std.proofs.lemmas.List.{append-nil, length-take, length-take-le}
use Rattle.sc_term.specs.declared.Numbered.{Numbered}
use Rattle.sc_term.specs.Numbering.{numbered}
use Rattle.sc_steps.proofs.LineLaws.{number_within}
use Rattle.sc_steps.proofs.ListLaws.{some_and}
use Rattle.sc_input_rules.specs.Problem.{Stated}
use Rattle.sc_interp.specs.Versions.{ClaimedStructure}
use Rattle.sc_core_rules.specs.declared.row.Outcome.{Outcome}
use Rattle.sc_core_rules.specs.declared.row.Outcome.TheVariants as outcome
use Rattle.sc_core_rules.specs.Book.{Book}
use Rattle.sc_core_rules.specs.Order.{Where}
use Rattle.sc_core_rules.specs.Start.{input_clauses}
use Rattle.sc_core_rules.specs.Selection.{Seen}
use Rattle.sc_core_rules.specs.Turn.{Run, Turns}
use Rattle.sc_core_rules.specs.Run.{started}
use Rattle.sc_core_rules.proofs.DerivationLaws.{compared}
use Rattle.sc_core.specs.State.{ProverState, at_start}
use Rattle.sc_guide.specs.Guided.{grown}
use Rattle.sc_worker.specs.declared.plan.Plan.{Plan}
use Rattle.sc_worker.specs.Plans.{IsPlan}
use Rattle.sc_worker.specs.declared.worked.Skip.{Skip}
use Rattle.sc_worker.specs.declared.worked.Skip.TheVariants as skip
use Rattle.sc_worker.specs.declared.worked.Worked.{Worked}
use Rattle.sc_worker.specs.declared.worked.Worked.TheVariants.{Joined, Skipped, Done, Wide}
use Rattle.sc_worker.specs.FinderList.{Answers, all_worked, joins, skips, MayBeSkipped, version_with, with_claim, task_for, claims_after, versions_of, is_light, candidates_of}
use Rattle.sc_worker.specs.Choosing.{Choice, at_first, IsTooWide, IsReason, IsJoined, IsSkipped, IsWorked}
use Rattle.sc_world.specs.Recorded.{turns_went}
use Rattle.sc_world.specs.Steps.{MayGrow, IsTurned, seeing, IsNextWorked, IsStep}
use Rattle.sc_world.specs.Underway.{HasStarted, went, chooser_after, IsUnderway, turns_left}
use Rattle.sc_worker.proofs.FinderLaws.{claims_append, versions_append, answers_append, length_of_answers}
use Rattle.sc_world.proofs.AnswerLaws.{next_is, none_left, few_versions}
use Rattle.sc_world.proofs.TurnedLaws.{IsAfter, still_sees, after_turn}

-- ---- the start

none_went : (o : Option Outcome) → went o 0 ≡ 0
none_went None = refl
none_went (Some o) = by o
  where
    by : (o : Outcome) → turns_went o 0 ≡ 0
    by outcome.Proof = refl
    by outcome.SosEmpty = refl
    by (outcome.GivenLimit n) = refl
    by (outcome.KeptLimit n) = refl
    by (outcome.WorkLimit n) = refl

-- whether there are more cells or not, none was worked
none_worked : (cells left : ℕ) → Where (4096 < cells) (◌≡◌ {A = ℕ} 0 0) (◌≡◌ {A = ℕ} 0 (min 0 left))
none_worked cells left = by (compared 4096 cells)
  where
    by : (4096 < cells) ⊎ (4096 ≡ cells) ⊎ (cells < 4096) → Where (4096 < cells) (◌≡◌ {A = ℕ} 0 0) (◌≡◌ {A = ℕ} 0 (min 0 left))
    by (inl less) = inl (less, refl)
    by (inr (inl e)) = inr ((λ h. absurd (omega (arith, e, h))), omega arith)
    by (inr (inr more)) = inr ((λ h. absurd (omega (arith, more, h))), omega arith)

-- before the first candidate
module _ (problem : Stated) (plan : Plan) where
  abbrev first_choice : Choice
  first_choice = at_first problem plan 1

  wide_or_not : Where (IsTooWide first_choice) (◌≡◌ {A = ℕ} 0 0) (◌≡◌ {A = ℕ} 0 (min 0 (length first_choice.left)))
  wide_or_not = none_worked _ (length first_choice.left)

  at_the_start : (book : Book) (goal : Option ℕ) → IsUnderway first_choice (at_start problem 1 book goal) first_choice
  at_the_start book goal = record {
    worked = 0;
    within = omega arith;
    answers = [];
    finds = all_worked;
    chooses = refl;
    many = subst (λ (n : ℕ). Where (IsTooWide first_choice) (◌≡◌ {A = ℕ} 0 0) (◌≡◌ {A = ℕ} 0 (min n (length first_choice.left)))) (sym (none_went (started book goal).ended)) wide_or_not;
    whole = refl;
    same = refl;
    sees = refl;
    looks = tt;
    turns = tt;
    few = omega arith;
  }

  pub starts_underway : (prover : ProverState) (choice : Choice) → choice ≡ at_first problem plan 1 → HasStarted problem prover → IsUnderway choice prover choice
  starts_underway prover choice e h =
      subst (λ (c : Choice). IsUnderway c prover c) (sym e) (subst (λ (p : ProverState). IsUnderway first_choice p first_choice) (sym h.3) (at_the_start h.0 h.1))

-- there are at most 128 candidates
pub few_candidates : (problem : Stated) (plan : Plan) (choice : Choice) → choice ≡ at_first problem plan 1 → IsPlan plan → length choice.left ≤ 128
few_candidates problem plan choice e is = subst (λ (c : Choice). length c.left ≤ 128) (sym e) few
  where
    few : length (candidates_of problem plan) ≤ 128
    few =
        let count = length-take plan.candidates (filter is_light (input_clauses problem)) in
        let most = is.candidates in
        omega (arith, count, most)

-- the first list is there
pub list_there : (seen : Seen) → MayGrow seen → 1 ≤ length seen
list_there seen h =
    let found = some_and (numbered seen 1) (λ (versions : List ClaimedStructure). length versions < 2 ^ 31) h in
    (number_within seen 1 found.0 found.1).1

-- ---- a step

module _ (first : Choice) (old : ProverState) (choice : Choice) (h : IsUnderway first old choice) where
  -- where there are at most 128 candidates, there is room for one version more
  pub room : length first.left ≤ 128 → MayGrow old.seen
  room few = subst MayGrow (sym h.sees) short
    where
      short : length (versions_of h.answers) < 2 ^ 31
      short =
          let each = length_of_answers first.problem first.size first.budget [] (take h.worked first.left) h.answers h.finds in
          let front = length-take-le h.worked first.left h.within in
          let versions = few_versions h.answers in
          let within = h.within in
          omega (arith, each, front, versions, within, few)

  many_answers : length h.answers ≡ h.worked
  many_answers = length_of_answers first.problem first.size first.budget [] (take h.worked first.left) h.answers h.finds ∙ length-take-le h.worked first.left h.within

  module _ (going : old.run.ended ≡ None) where
    went_all : went old.run.ended (length old.run.given) ≡ length old.run.given
    went_all = ap (λ (o : Option Outcome). went o (length old.run.given)) going

    fewer : length h.answers ≤ length old.run.given
    fewer = by h.many
      where
        by : Where (IsTooWide first) (h.worked ≡ 0) (h.worked ≡ min (went old.run.ended (length old.run.given)) (length first.left)) → length h.answers ≤ length old.run.given
        by (inl k) = let e = k.1 in let count = many_answers in omega (arith, count, e)
        by (inr k) = let e = k.1 in let count = many_answers in let all = went_all in omega (arith, count, e, all)

    module _ (mid : ProverState) (turn : IsTurned old mid) where
      after : IsAfter first.problem h.answers old.run mid.run
      after = after_turn first.problem h.answers old.seen h.sees old.run mid.run fewer going h.looks h.turns h.few
          (subst (λ (problem : Stated). Turns problem old.run old.seen mid.run) h.same turn.turns)

      -- how many candidates were worked, where that many are
      abbrev AreMany : ℕ → Type 0
      AreMany turns = Where (IsTooWide first) (h.worked ≡ 0) (h.worked ≡ min turns (length first.left))

      -- with the same answers
      stays : (next : Choice) → next ≡ chooser_after first h.worked h.answers → AreMany (went mid.run.ended (length mid.run.given)) → IsUnderway first mid next
      stays next chooses many = record {
        worked = h.worked;
        within = h.within;
        answers = h.answers;
        finds = h.finds;
        chooses = chooses;
        many = many;
        whole = turn.whole;
        same = turn.same ∙ h.same;
        sees = turn.sees ∙ h.sees;
        looks = after.looks;
        turns = after.turns;
        few = after.few;
      }

      -- ---- the run has ended

      went_ended : (o : Option Outcome) → mid.run.ended ≡ o → o ≢ None → went o (length mid.run.given) ≡ length old.run.given
      went_ended None e some = absurd (some refl)
      went_ended (Some o) e some = after.over o e

      where_ended : mid.run.ended ≢ None → IsUnderway first mid choice
      where_ended some = stays choice h.chooses (subst AreMany (went_all ∙ sym (went_ended mid.run.ended refl some)) h.many)

      -- ---- the run goes on

      module _ (on : mid.run.ended ≡ None) where
        went_on : went mid.run.ended (length mid.run.given) ≡ length old.run.given + 1
        went_on = ap (λ (o : Option Outcome). went o (length mid.run.given)) on ∙ after.on on

        abbrev now : Choice
        now = chooser_after first h.worked h.answers

        -- no candidate is left
        all_done : now.left ≡ [] → AreMany (went mid.run.ended (length mid.run.given))
        all_done none = by h.many
          where
            by : AreMany (went old.run.ended (length old.run.given)) → AreMany (went mid.run.ended (length mid.run.given))
            by (inl k) = inl k
            by (inr k) =
                let e = k.1 in
                let most = none_left h.worked first.left none in
                let within = h.within in
                let before = went_all in
                let beyond = went_on in
                inr (k.0, omega (arith, e, most, within, before, beyond))

        -- there are too many cells
        too_wide : IsTooWide first → AreMany (went mid.run.ended (length mid.run.given))
        too_wide wide = by h.many
          where
            by : AreMany (went old.run.ended (length old.run.given)) → AreMany (went mid.run.ended (length mid.run.given))
            by (inl k) = inl k
            by (inr k) = absurd (k.0 wide)

        -- the next candidate has this answer
        module _ (p : Numbered) (others : List Numbered) (a : Option ClaimedStructure) (left : now.left ≡ p ∷ others) (narrow : ¬ IsTooWide first)
            (answer : Answers first.problem first.size first.budget now.claims (p ∷ []) (a ∷ [])) where
          one_next : (take (suc h.worked) first.left ≡ take h.worked first.left ++ p ∷ []) × (drop (suc h.worked) first.left ≡ others) × (h.worked < length first.left)
          one_next = next_is h.worked first.left p others left

          was : h.worked ≡ length old.run.given
          was = by h.many
            where
              by : AreMany (went old.run.ended (length old.run.given)) → h.worked ≡ length old.run.given
              by (inl k) = absurd (narrow k.0)
              by (inr k) = let e = k.1 in let within = one_next.2 in let before = went_all in omega (arith, e, within, before)

          one_worked : (next : Choice) (new : ProverState) → next ≡ record first { claims = claims_after now.claims (a ∷ []); left = others }
              → new ≡ record mid { seen = versions_of (h.answers ++ a ∷ []) ∷ [] } → IsUnderway first new next
          one_worked next new goes_to is = subst (λ (q : ProverState). IsUnderway first q next) (sym is) (record {
            worked = suc h.worked;
            within = let within = one_next.2 in omega (arith, within);
            answers = h.answers ++ a ∷ [];
            finds =
                subst (λ (ps : List Numbered). Answers first.problem first.size first.budget [] ps (h.answers ++ a ∷ [])) (sym one_next.0)
                (answers_append first.problem first.size first.budget [] (take h.worked first.left) (p ∷ []) h.answers (a ∷ []) h.finds answer);
            chooses =
                let claims = sym (claims_append [] h.answers (a ∷ [])) in
                let rest = sym one_next.1 in
                goes_to ∙ (λ i. record first { claims = claims i; left = rest i });
            many = let within = one_next.2 in let before = was in let beyond = went_on in inr (narrow, omega (arith, within, before, beyond));
            whole = turn.whole;
            same = turn.same ∙ h.same;
            sees = refl;
            looks =
                let rows = after.on on in
                let before = was in
                let count = many_answers in
                still_sees h.answers a (length mid.run.given) (omega (arith, rows, before, count)) mid.run.given after.turns after.looks;
            turns = after.turns;
            few = after.few;
          })

        may_skip : (p : Numbered) (reason : Skip) → IsReason now (with_claim now.claims p) reason → MayBeSkipped first.budget (task_for first.problem first.size (with_claim now.claims p))
        may_skip p skip.NoModel r = inr (r.0, inl r.1)
        may_skip p skip.Spent r = inr (r.0, inr r.1)
        may_skip p skip.Instances r = inl r

        -- whatever became of it
        by_worked : (w : Worked) (next : Choice) (new : ProverState) → IsWorked now next w → new ≡ seeing w mid → IsUnderway first new next
        by_worked (Joined v) next new works sees = joined works.1
          where
            joined : IsJoined now next v → IsUnderway first new next
            joined j =
                let w : ClaimedStructure = version_with j.tables (with_claim now.claims j.candidate) in
                let seen : grown mid.seen 1 v ≡ versions_of (h.answers ++ Some w ∷ []) ∷ [] =
                ap (λ (s : Seen). grown s 1 v) (turn.sees ∙ h.sees) ∙ ap (λ (u : ClaimedStructure). (versions_of h.answers ++ u ∷ []) ∷ []) j.version
                ∙ ap (λ (vs : List ClaimedStructure). vs ∷ []) (sym (versions_append h.answers (Some w ∷ []))) in
                one_worked j.candidate j.others (Some w) j.next works.0 (joins j.tried j.first j.structure all_worked) next new j.goes_on (sees ∙ (λ i. record mid { seen = seen i }))
        by_worked (Skipped reason) next new works sees = skipped works.1
          where
            skipped : IsSkipped now next reason → IsUnderway first new next
            skipped s =
                let seen : mid.seen ≡ versions_of (h.answers ++ None ∷ []) ∷ [] =
                turn.sees ∙ h.sees ∙ ap (λ (vs : List ClaimedStructure). vs ∷ []) (sym (versions_append h.answers (None ∷ []) ∙ append-nil (versions_of h.answers))) in
                one_worked s.candidate s.others None s.next works.0 (skips (may_skip s.candidate reason s.reasons) all_worked) next new s.goes_on (sees ∙ (λ i. record mid { seen = seen i }))
        by_worked Done next new works sees = subst (λ (q : ProverState). IsUnderway first q next) (sym sees) (stays next works.1 (all_done works.0))
        by_worked Wide next new works sees = subst (λ (q : ProverState). IsUnderway first q next) (sym sees) (stays next works.2 (too_wide works.1))

    pub step_underway : (new : ProverState) (next : Choice) → IsStep old new choice next → IsUnderway first new next
    step_underway new next s = by s.works
      where
        by : Where (s.turned.run.ended ≡ None) (IsNextWorked s.turned new choice next) ((new ≡ s.turned) × (next ≡ choice)) → IsUnderway first new next
        by (inl k) = by_worked s.turned s.turn k.0 k.1.worked next new (subst (λ (c : Choice). IsWorked c next k.1.worked) h.chooses k.1.works) k.1.sees
        by (inr k) =
            subst (λ (q : ProverState). IsUnderway first q next) (sym k.1.0)
            (subst (λ (c : Choice). IsUnderway first s.turned c) (sym k.1.1) (where_ended s.turned s.turn k.0))

    -- ---- fewer turns are left

    abbrev pub left_of : Run → ℕ
    left_of run = turns_left first.problem.params.max_given run.ended (length run.given)

    same_run : (w : Worked) (mid : ProverState) → (seeing w mid).run ≡ mid.run
    same_run (Joined v) mid = refl
    same_run (Skipped reason) mid = refl
    same_run Done mid = refl
    same_run Wide mid = refl

    pub step_fewer : (new : ProverState) (next : Choice) → IsStep old new choice next → left_of new.run < left_of old.run
    step_fewer new next s = subst (λ (run : Run). left_of run < left_of old.run) (sym (by s.works)) (after s.turned s.turn).left
      where
        by : Where (s.turned.run.ended ≡ None) (IsNextWorked s.turned new choice next) ((new ≡ s.turned) × (next ≡ choice)) → new.run ≡ s.turned.run
        by (inl k) = ap (λ (q : ProverState). q.run) k.1.sees ∙ same_run k.1.worked s.turned
        by (inr k) = ap (λ (q : ProverState). q.run) k.1.0
