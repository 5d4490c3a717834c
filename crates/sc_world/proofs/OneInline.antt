-- A problem has one record with an inline finder none of whose searches has more nodes than the budget.
use Rattle.std.proofs.Common.{◌≡◌, ◌∙◌, sym, ap, subst, refl, ℕ, zero, suc, ◌+◌, ◌<◌, ◌≤◌, ◌⊎◌, inl, inr, List, [], ◌∷◌, ◌++◌, length, take, min, Option, Some, arith, take-take}
use Rattle.std.specs.Prelude.{IsSome}
use Rattle.sc_term.specs.declared.Numbered.{Numbered}
use Rattle.sc_input_rules.specs.Problem.{Stated}
use Rattle.sc_input_rules.specs.WellFormed.{IsProblem}
use Rattle.sc_interp.specs.declared.plain.Claim.{Claim}
use Rattle.sc_interp.specs.Versions.{ClaimedStructure}
use Rattle.sc_core_rules.specs.declared.row.GivenRow.{GivenRow}
use Rattle.sc_core_rules.specs.declared.row.Outcome.{Outcome}
use Rattle.sc_core_rules.specs.declared.row.Outcome.TheVariants.{Proof, SosEmpty, GivenLimit, KeptLimit, WorkLimit}
use Rattle.sc_core_rules.specs.Selection.{Seen}
use Rattle.sc_core_rules.specs.Turn.{Run}
use Rattle.sc_core_rules.specs.Run.{IsRun, looks_after, looks_of}
use Rattle.sc_core_rules.proofs.DerivationLaws.{compared}
use Rattle.sc_core_rules.proofs.ProcessLaws.{where_case}
use Rattle.sc_core_rules.proofs.RunLaws.{run_is_one}
use Rattle.sc_text_run_rules.specs.declared.run.FinderEnd.{FinderEnd}
use Rattle.sc_text_run_rules.specs.RunValue.{RunValue}
use Rattle.sc_worker.specs.declared.plan.Plan.{Plan}
use Rattle.sc_worker.specs.Plans.{size_of_finder}
use Rattle.sc_worker.specs.FinderList.{candidates_of, Answers, all_worked, joins, skips, versions_of, IsWide, IsWork, IsNeverSpent}
use Rattle.sc_worker.proofs.DecidedLaws.{work_is_one}
use Rattle.sc_world.specs.Recorded.{Tells, turns_went, EndsInline, IsInline, IsRecord}
use Rattle.sc_world.specs.OneText.{AreAlike, lengths_of}
use Rattle.sc_world.proofs.InlineLooks.{Answered, AreTurnsFrom, run_counted, free_run, look_at, looks_from, count_looks, looks_on, looks_at_first, rows_see}
use Rattle.sc_world.proofs.OneText.{one_text}

-- ---- the first of the answers

module _ (problem : Stated) (size budget : ℕ) where
  first_answers : (c : ℕ) (claims : List Claim) (ps : List Numbered) (answers : Answered) → Answers problem size budget claims ps answers → Answers problem size budget claims (take c ps) (take c answers)
  first_answers zero claims ps answers h = all_worked
  first_answers (suc c) claims ps answers all_worked = all_worked
  first_answers (suc c) claims ps answers (joins tried first structure h) = joins tried first structure (first_answers c _ _ _ h)
  first_answers (suc c) claims ps answers (skips reason h) = skips reason (first_answers c _ _ _ h)

-- the first of the candidates that were worked have the first of the answers
first_work : (problem : Stated) (plan : Plan) (f c d : ℕ) (answers : Answered) → c ≤ d → IsWork problem plan f d answers → IsWork problem plan f c (take c answers)
first_work problem plan f c d answers le h = record {
  within = let most = h.within in omega (arith, le, most);
  wide = λ w. let none = h.wide w in omega (arith, le, none);
  finds =
      subst (λ (ps : List Numbered). Answers problem (size_of_finder plan f) plan.nodes [] ps (take c answers)) (take-take c d (candidates_of problem plan) le)
      (first_answers problem (size_of_finder plan f) plan.nodes c [] (take d (candidates_of problem plan)) answers h.finds);
}

-- ---- after how many turns the run went on

turns_went_on : (outcome : Outcome) (n : ℕ) → n ≤ turns_went outcome n + 1
turns_went_on Proof n = omega arith
turns_went_on SosEmpty n = omega arith
turns_went_on (GivenLimit k) n = omega arith
turns_went_on (KeptLimit k) n = omega arith
turns_went_on (WorkLimit k) n = omega arith

-- of two numbers of worked candidates the lesser is the greater too, or as many as the turns wanted
fewer_worked : (c d went most n : ℕ) → c ≡ min went most → c ≤ d → d ≤ most → n ≤ went + 1 → (c ≡ d) ⊎ (n ≤ c + 1)
fewer_worked c d went most n is le within rows = by (compared went most)
  where
    by : (went < most) ⊎ (went ≡ most) ⊎ (most < went) → (c ≡ d) ⊎ (n ≤ c + 1)
    by (inl less) = inr (omega (arith, is, rows, less))
    by (inr (inl e)) = inr (omega (arith, is, rows, e))
    by (inr (inr more)) = inl (omega (arith, is, le, within, more))

module _ (problem : Stated) (plan : Plan) where
  -- ---- one record

  module _ (text : RunValue) (list : List ClaimedStructure) (tells : Tells problem (list ∷ []) text) (inline : IsInline problem plan text list) where
    has_ended : IsSome tells.run.ended
    has_ended = subst (λ (o : Option Outcome). IsSome o) (sym tells.outcome) refl

    are_turns : AreTurnsFrom 0 text.given
    are_turns = subst (AreTurnsFrom 0) (sym tells.given) (run_counted problem (looks_of text.given (list ∷ [])) tells.run tells.is_run)

    -- its looks are those at the answers, and one more
    in_looks : (end : Seen) × (looks_of text.given (list ∷ []) ≡ looks_from inline.answers 0 (length text.given) ++ end ∷ [])
    in_looks =
        let seen = rows_see inline.answers 0 ([] ∷ []) text.given are_turns inline.looks in
        (seen.0, ap (λ (versions : List ClaimedStructure). looks_after ([] ∷ []) text.given (versions ∷ [])) inline.printed ∙ seen.1)

    -- it is a run over any looks at answers that begin as these, where there are more looks than rows
    run_over : (answers : Answered) (m : ℕ) → looks_from inline.answers 0 (length text.given) ≡ looks_from answers 0 (length text.given)
        → IsRun problem (looks_from answers 0 (length text.given + suc m)) tells.run
    run_over answers m same =
        let front : List Seen = looks_from answers 0 (length text.given) in
        let many : length tells.run.given ≡ length front = ap (λ (rows : List GivenRow). length rows) (sym tells.given) ∙ sym (count_looks answers 0 (length text.given)) in
        let here : IsRun problem (front ++ in_looks.0 ∷ []) tells.run =
        subst (λ (looks : List Seen). IsRun problem looks tells.run) (in_looks.1 ∙ ap (λ (looks : List Seen). looks ++ in_looks.0 ∷ []) same) tells.is_run in
        subst (λ (looks : List Seen). IsRun problem looks tells.run) (sym (looks_on answers 0 (length text.given) (suc m)))
        (free_run problem front in_looks.0 (look_at answers (0 + length text.given)) (looks_from answers (0 + length text.given + 1) m) tells.run has_ended many here)

  -- ---- two records

  module _ (such : IsProblem problem) (never : IsNeverSpent problem plan 1)
      (text : RunValue) (list : List ClaimedStructure) (h : Tells problem (list ∷ []) text) (i : IsInline problem plan text list)
      (other : RunValue) (others : List ClaimedStructure) (k : Tells problem (others ∷ []) other) (j : IsInline problem plan other others)
      (order : (i.worked < j.worked) ⊎ (i.worked ≡ j.worked)) where
    at_most : i.worked ≤ j.worked
    at_most = by order
      where
        by : (i.worked < j.worked) ⊎ (i.worked ≡ j.worked) → i.worked ≤ j.worked
        by (inl less) = omega (arith, less)
        by (inr e) = omega (arith, e)

    -- where some candidate was worked, the finder isn't wide
    narrow : i.worked < j.worked → ¬ IsWide problem plan 1
    narrow less wide = let none = j.work.wide wide in omega (arith, less, none)

    -- the fewer answers are the first of the more
    are_first : i.answers ≡ take i.worked j.answers
    are_first =
        work_is_one problem plan 1 i.worked i.answers (take i.worked j.answers) never i.work (first_work problem plan 1 i.worked j.worked j.answers at_most j.work)

    where_as_many : i.worked ≡ j.worked → i.answers ≡ j.answers
    where_as_many e = work_is_one problem plan 1 j.worked i.answers j.answers never (subst (λ (c : ℕ). IsWork problem plan 1 c i.answers) e i.work) j.work

    as_many_or_enough : (i.worked ≡ j.worked) ⊎ (length text.given ≤ i.worked + 1)
    as_many_or_enough = by order
      where
        by : (i.worked < j.worked) ⊎ (i.worked ≡ j.worked) → (i.worked ≡ j.worked) ⊎ (length text.given ≤ i.worked + 1)
        by (inl less) =
            fewer_worked i.worked j.worked (turns_went text.outcome (length text.given)) (length (candidates_of problem plan)) (length text.given)
            (i.many (narrow less)) at_most j.work.within (turns_went_on text.outcome (length text.given))
        by (inr e) = inl e

    same_looks : looks_from i.answers 0 (length text.given) ≡ looks_from j.answers 0 (length text.given)
    same_looks = by as_many_or_enough
      where
        by : (i.worked ≡ j.worked) ⊎ (length text.given ≤ i.worked + 1) → looks_from i.answers 0 (length text.given) ≡ looks_from j.answers 0 (length text.given)
        by (inl e) = ap (λ (answers : Answered). looks_from answers 0 (length text.given)) (where_as_many e)
        by (inr enough) =
            ap (λ (answers : Answered). looks_from answers 0 (length text.given)) are_first
            ∙ looks_at_first j.answers i.worked 0 (length text.given) (omega (arith, enough))

    same_run : h.run ≡ k.run
    same_run =
        let count : length text.given + suc (length other.given) ≡ length other.given + suc (length text.given) = omega arith in
        run_is_one problem (looks_from j.answers 0 (length other.given + suc (length text.given))) h.run k.run such
        (subst (λ (n : ℕ). IsRun problem (looks_from j.answers 0 n) h.run) count (run_over text list h i j.answers (length other.given) same_looks))
        (run_over other others k j j.answers (length text.given) refl)

    same_given : text.given ≡ other.given
    same_given = h.given ∙ ap (λ (run : Run). run.given) same_run ∙ sym k.given

    same_outcome : text.outcome ≡ other.outcome
    same_outcome =
        let both : Some text.outcome ≡ Some other.outcome = sym h.outcome ∙ ap (λ (run : Run). run.ended) same_run ∙ k.outcome in
        cc

    same_worked : i.worked ≡ j.worked
    same_worked = by order
      where
        by : (i.worked < j.worked) ⊎ (i.worked ≡ j.worked) → i.worked ≡ j.worked
        by (inl less) =
            i.many (narrow less)
            ∙ ap (λ (outcome : Outcome). min (turns_went outcome (length text.given)) (length (candidates_of problem plan))) same_outcome
            ∙ ap (λ (rows : List GivenRow). min (turns_went other.outcome (length rows)) (length (candidates_of problem plan))) same_given
            ∙ sym (j.many (narrow less))
        by (inr e) = e

    same_list : list ≡ others
    same_list = i.printed ∙ ap versions_of (where_as_many same_worked) ∙ sym j.printed

    same_ends : text.ends ≡ other.ends
    same_ends =
        let end : i.end ≡ j.end =
        where_case (λ a b. a ∙ sym b) (where_case (λ a b. a ∙ sym b) (λ a b. a ∙ sym b)) (subst (λ (c : ℕ). EndsInline problem plan c i.end) same_worked i.ends) j.ends in
        i.told ∙ ap (λ (e : FinderEnd). e ∷ []) end ∙ sym j.told

    same_text : text ≡ other
    same_text =
        let alike : AreAlike text other =
        one_text problem (others ∷ []) text other such (subst (λ (l : List ClaimedStructure). Tells problem (l ∷ []) text) same_list h) k (ap lengths_of same_given) in
        λ x. record {
          ratio = alike.ratio x;
          lists = alike.lists x;
          given = alike.given x;
          kept = alike.kept x;
          ends = same_ends x;
          outcome = alike.outcome x;
          proof = alike.proof x;
          marks = alike.marks x;
        }

    same_both : (list ≡ others) × (text ≡ other)
    same_both = (same_list, same_text)

  module _ (such : IsProblem problem) (never : IsNeverSpent problem plan 1)
      (text : RunValue) (list : List ClaimedStructure) (h : Tells problem (list ∷ []) text) (i : IsInline problem plan text list)
      (other : RunValue) (others : List ClaimedStructure) (k : Tells problem (others ∷ []) other) (j : IsInline problem plan other others) where
    by_count : (i.worked < j.worked) ⊎ (i.worked ≡ j.worked) ⊎ (j.worked < i.worked) → (list ≡ others) × (text ≡ other)
    by_count (inl less) = same_both such never text list h i other others k j (inl less)
    by_count (inr (inl e)) = same_both such never text list h i other others k j (inr e)
    by_count (inr (inr more)) =
        let both = same_both such never other others k j text list h i (inl more) in
        (sym both.0, sym both.1)

    in_any_order : (list ≡ others) × (text ≡ other)
    in_any_order = by_count (compared i.worked j.worked)

-- a problem has one record and one list of versions
pub one_inline : (problem : Stated) (plan : Plan) → IsProblem problem → IsNeverSpent problem plan 1 → (versions others : Seen) (text other : RunValue)
    → IsRecord problem plan versions text → IsRecord problem plan others other → (versions ≡ others) × (text ≡ other)
one_inline problem plan such never versions others text other h k =
    let both =
    in_any_order problem plan such never text h.list (subst (λ (seen : Seen). Tells problem seen text) h.one h.tells) h.inline
    other k.list (subst (λ (seen : Seen). Tells problem seen other) k.one k.tells) k.inline in
    (h.one ∙ ap (λ (list : List ClaimedStructure). list ∷ []) both.0 ∙ sym k.one, both.1)
