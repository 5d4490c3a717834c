-- What a prover's run keeps.
use Rattle.std.proofs.Common.{◌≡◌, ◌∙◌, sym, ap, subst, refl, ℕ, ◌+◌, ◌<◌, ◌≤◌, inl, inr, List, [], ◌∷◌, ◌++◌, length, length-append, get_or, map, Option, Some, None, arith}
use Rattle.std.specs.List.{AllPairs, AllByRecursion}
use Rattle.std.proofs.lemmas.List.{length-map, length-replicate, map-append}
use Rattle.std.proofs.lemmas.List.Quantifiers.{all_pairs_push}
use Rattle.sc_term.proofs.SubstitutionLaws.{all_join}
use Rattle.sc_core_rules.specs.declared.row.GivenRow.{GivenRow}
use Rattle.sc_core_rules.specs.declared.row.Outcome.{Outcome}
use Rattle.sc_term.specs.declared.Line.{Line}
use Rattle.sc_term.specs.declared.symbol.Symbol.{Symbol}
use Rattle.sc_term.specs.Proof.{IsProof}
use Rattle.sc_term.specs.Refuted.{IsRefuted}
use Rattle.sc_term.specs.Numbering.{numbered}
use Rattle.sc_steps.specs.declared.derivations.derivation.Derived.{Derived}
use Rattle.sc_steps.specs.Splice.{IsSplice}
use Rattle.sc_steps.proofs.ListLaws.{some_and}
use Rattle.sc_steps.proofs.LineLaws.{number_within}
use Rattle.sc_input_rules.specs.Problem.{Stated}
use Rattle.sc_input_rules.specs.WellFormed.{IsProblem}
use Rattle.sc_core_rules.specs.declared.row.Outcome.TheVariants as outcome
use Rattle.sc_core_rules.specs.Book.{Book, numbered_clauses}
use Rattle.sc_core_rules.specs.Start.{Starts}
use Rattle.sc_core_rules.specs.Selection.{Seen}
use Rattle.sc_core_rules.specs.Turn.{Run, Turns, Infer, with_end}
use Rattle.sc_core_rules.specs.Run.{IsRun, started}
use Rattle.sc_core_rules.proofs.GoalLaws.{IsEmptyAt, run_goal, run_refutes}
use Rattle.sc_core_laws.specs.LeavesInTime.{LeavesInTime}
use Rattle.sc_core_laws.specs.TrueRows.{IsFrontOf}
use Rattle.sc_guide.specs.Guided.{Guided, nothing_seen, lengths_of}
use Rattle.sc_core.specs.Counts.{IsCounted}
use Rattle.sc_core.specs.State.{look_told, looks_led, AreLengthsIn, SeesNoFewer, IsReached, LeaveInTimeSoFar}
use Rattle.sc_core.proofs.CountLaws.{run_counted, run_turns, run_stays}
use Rattle.sc_core.proofs.LookLaws.{whole_look, all_lengths, no_more, at_place, told_stay, same_led, one_more}

-- so many lists are seen at the start
pub lists_seen : (symbols : List Symbol) (lists : ℕ) (guide : Guided) → guide ≡ nothing_seen symbols lists → length guide.seen ≡ lists
lists_seen symbols lists guide e = ap (λ (g : Guided). length g.seen) e ∙ length-replicate lists []

module _ (problem : Stated) where
  -- ---- the last look once more

  -- a run over the looks of its rows alone is one over those that led to it: a run that has ended takes one look more
  settled : (seen : Seen) (run : Run) → IsRun problem (map (look_told seen) run.given) run → IsRun problem (looks_led run.ended run.given seen) run
  settled seen run h = by run.ended refl
    where
      by : (o : Option Outcome) → run.ended ≡ o → IsRun problem (looks_led o run.given seen) run
      by None e = h
      by (Some o) e =
          let more = one_more run.given seen o in
          subst (λ (looks : List Seen). IsRun problem looks run) (sym more.1) (run_stays problem (map (look_told seen) run.given) more.0 run h o e)

  -- a run that ends by a turn without a row does so whatever it looks at
  ended_led : (seen : Seen) (old : Run) (o : Outcome) → IsRun problem (map (look_told seen) old.given) old → old.ended ≡ None
      → ((look : Seen) → Turns problem old look (with_end old o)) → IsRun problem (looks_led (Some o) old.given seen) (with_end old o)
  ended_led seen old o h going turns =
      let more = one_more old.given seen o in
      subst (λ (looks : List Seen). IsRun problem looks (with_end old o)) (sym more.1)
      (run_turns problem (map (look_told seen) old.given) more.0 old (with_end old o) h going (turns more.0))

  -- ---- the start

  -- no look leads to the start
  pub start_reached : (seen : Seen) (book : Book) (goal : Option ℕ) (run : Run) → Starts problem book goal → run ≡ started book goal → IsReached problem seen run
  start_reached seen book goal run h e = subst (IsReached problem seen) (sym e) (record {
    is_run = settled seen (started book goal) there;
    told = tt;
    grow = λ i j d below within. absurd (omega (arith, within));
  })
    where
      there : IsRun problem [] (started book goal)
      there = record { book = book; goal = goal; starts = h; goes = refl }

  -- ---- more is seen

  pub grown_reached : (seen other : Seen) (run : Run) → IsFrontOf other seen → IsReached problem seen run → IsReached problem other run
  grown_reached seen other run front h = record {
    is_run = subst (λ (looks : List Seen). IsRun problem looks run) (sym (same_led seen other front run.ended run.given h.told)) h.is_run;
    told = told_stay seen other front run.given h.told;
    grow = h.grow;
  }

  -- ---- a turn leads on

  module _ (seen : Seen) (old new : Run) (h : IsReached problem seen old) (going : old.ended ≡ None) (turn : Turns problem old seen new) where
    so_far : IsRun problem (map (look_told seen) old.given) old
    so_far = subst (λ (o : Option Outcome). IsRun problem (looks_led o old.given seen) old) going h.is_run

    over : IsRun problem (map (look_told seen) old.given ++ seen ∷ []) new
    over = run_turns problem (map (look_told seen) old.given) seen old new so_far going turn

    ended_by : (o : Outcome) → new ≡ with_end old o → ((look : Seen) → Turns problem old look (with_end old o)) → IsReached problem seen new
    ended_by o e turns = subst (IsReached problem seen) (sym e) (record { is_run = ended_led seen old o so_far going turns; told = h.told; grow = h.grow })

    given_one : Infer problem (length old.given + 1) old seen new → IsReached problem seen new
    given_one i = record {
      is_run = settled seen new (subst (λ (looks : List Seen). IsRun problem looks new) (sym looks) over);
      told = subst (AllByRecursion (AreLengthsIn seen)) (sym rows) (all_join (AreLengthsIn seen) old.given (row ∷ []) h.told (all_lengths seen, tt));
      grow = subst (AllPairs SeesNoFewer) (sym rows) (all_pairs_push SeesNoFewer old.given row h.grow fewer);
    }
      where
        row : GivenRow
        row = record { turn = length old.given + 1; number = i.given.number; cause = i.cause; name = i.name; truth = i.truth; lengths = lengths_of seen }

        rows : new.given ≡ old.given ++ row ∷ []
        rows = ap (λ (run : Run). run.given) i.goes_to

        looks : map (look_told seen) new.given ≡ map (look_told seen) old.given ++ seen ∷ []
        looks =
            ap (map (look_told seen)) rows ∙ map-append (look_told seen) old.given (row ∷ [])
            ∙ ap (λ (look : Seen). map (look_told seen) old.given ++ look ∷ []) (whole_look seen)

        fewer : (k : ℕ) (d : GivenRow) → k < length old.given → SeesNoFewer (get_or old.given k d) row
        fewer k d less = no_more (get_or old.given k d).lengths seen (at_place (AreLengthsIn seen) old.given h.told k d less)

    by_turn : Turns problem old seen new → IsReached problem seen new
    by_turn (inl k) = ended_by outcome.SosEmpty k.1 (λ look. inl (k.0, refl))
    by_turn (inr (some, inl k)) = ended_by (outcome.GivenLimit (length old.given)) k.1 (λ look. inr (some, inl (k.0, refl)))
    by_turn (inr (some, inr (below, inl k))) = ended_by (outcome.KeptLimit (length old.book.kept)) k.1 (λ look. inr (some, inr (below, inl (k.0, refl))))
    by_turn (inr (some, inr (below, inr (fewer, i)))) = given_one i

    pub turn_reached : IsReached problem seen new
    turn_reached = by_turn turn

  -- ---- what is reached

  module _ (seen : Seen) (run : Run) (h : IsReached problem seen run) where
    abbrev led : List Seen
    led = looks_led run.ended run.given seen

    pub reached_counted : IsCounted problem run
    reached_counted = run_counted problem led run h.is_run

    -- each clause leaves in time
    pub reached_leaves : LeavesInTime → LeaveInTimeSoFar problem seen run
    reached_leaves law n t put goes_so_far = law problem led run n t h.is_run put goes_so_far

    -- ---- the proof

    -- a run that ended with a proof has a goal
    pub proof_has_goal : run.ended ≡ Some outcome.Proof → run.goal ≡ None → ⊥
    proof_has_goal proof none =
        let goal = reached_counted.goal proof in
        let bad : ◌≡◌ {A = Option ℕ} None (Some goal.0) = sym none ∙ goal.1 in
        cc

    pub goal_empty : (goal : ℕ) → IsProblem problem → run.goal ≡ Some goal → IsEmptyAt problem run.book goal
    goal_empty goal such is = run_goal problem led run such h.is_run goal is

    -- the goal is the number of a clause
    pub goal_there : (goal : ℕ) → IsProblem problem → run.goal ≡ Some goal → (0 < goal) × (goal ≤ length problem.inputs + length run.book.derived)
    goal_there goal such is =
        let found = some_and (numbered (numbered_clauses problem run.book) goal) (λ c. c.literals ≡ []) (goal_empty goal such is) in
        let within = number_within (numbered_clauses problem run.book) goal found.0 found.1 in
        let long = length-append problem.inputs (map (λ (d : Derived). d.clause) run.book.derived) in
        let count = length-map run.book.derived (λ (d : Derived). d.clause) in
        let some = within.0 in
        let most = within.1 in
        (omega (arith, some), omega (arith, most, long, count))

    pub reached_refutes : (goal : ℕ) (lines : List Line) → IsProblem problem → run.goal ≡ Some goal → IsSplice problem.inputs run.book.derived goal lines
        → IsProof problem.inputs lines × IsRefuted problem.inputs
    reached_refutes goal lines such is splice = run_refutes problem led run goal lines such h.is_run is splice
