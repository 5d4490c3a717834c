-- A run that has found the empty clause has a proof, and its input clauses are refuted.
use Rattle.std.proofs.Common.{◌≡◌, ◌≢◌, ◌∙◌, sym, ap, subst, ℕ, ◌+◌, inl, inr, List, [], ◌∷◌, length, map, Some, None, Option, arith, length-append}
use Rattle.std.specs.Prelude.{IsSomeAnd}
use Rattle.std.specs.List.{Contains}
use Rattle.sc_term.specs.declared.Clause.{Clause}
use Rattle.sc_term.specs.declared.Line.{Line}
use Rattle.sc_term.specs.declared.Numbered.{Numbered}
use Rattle.sc_term.specs.Numbering.{numbered}
use Rattle.sc_steps.specs.declared.derivations.derivation.Derived.{Derived}
use Rattle.sc_steps.specs.Derivation.{all_clauses}
use Rattle.sc_steps.proofs.LineLaws.{some_so, number_in_whole, number_of_end}
use Rattle.sc_steps.proofs.SpliceCalls.{proves}
use Rattle.sc_steps.proofs.Soundness.{proof-refutes}
use Rattle.sc_input_rules.specs.Problem.{Stated}
use Rattle.sc_input_rules.specs.WellFormed.{IsProblem}
use Rattle.sc_core_rules.specs.declared.fate.Fate.{Fate}
use Rattle.sc_core_rules.specs.declared.fate.Fate.TheVariants.{Kept, Empty, Taut, Heavy, Long, Subsumed}
use Rattle.sc_core_rules.specs.declared.fate.Processed.{Processed}
use Rattle.sc_core_rules.specs.Book.{Book, IsSound, numbered_clauses, next_number, with_derived}
use Rattle.sc_core_rules.specs.Processing.{with_kept, Keeps, MeetsFate, Processes}
use Rattle.sc_core_rules.specs.Start.{input_clauses, OpensBook, EndsWith, Starts}
use Rattle.sc_core_rules.specs.Selection.{Seen}
use Rattle.sc_core_rules.specs.Sites.{Site}
use Rattle.sc_core_rules.specs.WorkList.{Item, Finish, Done, Found, TooMany, Works, done, too_many, nothing, found, goes_on}
use Rattle.sc_core_rules.specs.Turn.{Run, Infer, Turns, IsPassedOver, with_given, goal_of}
use Rattle.sc_core_rules.specs.Run.{GoesOver, started, IsRun, RunRefutes}
use Rattle.sc_core_rules.proofs.ConflictLaws.{conflict_empty}
use Rattle.sc_core_rules.proofs.SoundLaws.{StandsIn, grown, kept_sound, kept_stands}
use Rattle.sc_core_rules.proofs.SoundProcessing.{where_either, processes_sound}
use Rattle.sc_core_rules.proofs.DerivedBook.{all_stand}
use Rattle.sc_core_rules.proofs.DerivedRun.{run_derived}
use Rattle.sc_core_rules.proofs.TurnLaws.{given_sound, selected_there, turns_sound}
use Rattle.sc_core_rules.proofs.RunLaws.{input_stands, starts_sound}

-- clause number n of the book is empty
abbrev pub IsEmptyAt : Stated → Book → ℕ → Type 0
IsEmptyAt problem book n = IsSomeAnd (numbered (numbered_clauses problem book) n) (λ c. c.literals ≡ [])

module _ (problem : Stated) where
  -- an empty clause that takes the next number
  last_empty : (book : Book) (c : Clause) (lines : List Line) → c.literals ≡ [] → IsEmptyAt problem (with_derived book c lines) (next_number problem book)
  last_empty book c lines h = some_so (numbered (numbered_clauses problem (with_derived book c lines)) (next_number problem book)) (λ d. d.literals ≡ []) c
      (ap (λ (cs : List Clause). numbered cs (next_number problem book)) (grown problem book c lines) ∙ number_of_end (numbered_clauses problem book) c) h

  -- ---- processing

  module _ (old : Book) (sound : IsSound problem old) (c : Clause) (lines : List Line) (turn : ℕ) (new : Book) (out : Processed) (k : ℕ) (is : out.fate ≡ Empty k) where
    abbrev n : Numbered
    n = record { number = next_number problem old; clause = c }

    abbrev kept : Book
    kept = with_kept problem old c lines turn

    -- another fate than Empty
    dropped : (f : Fate) → out.fate ≡ f → f ≢ Empty k → IsEmptyAt problem new k
    dropped f h other = absurd (other (sym h ∙ is))

    keeps_empty : Keeps problem kept n new out → IsEmptyAt problem new k
    keeps_empty = where_either
        (λ h.
        let fate : Empty (next_number problem old + 1) ≡ Empty k = sym (ap (λ (o : Processed). o.fate) h.5) ∙ is in
        let number : next_number problem old + 1 ≡ k = cc in
        let next : next_number problem kept ≡ next_number problem old + 1 = ap (λ (cs : List Clause). length cs + 1) (grown problem old c lines) ∙ omega (arith, length-append (numbered_clauses problem old) (c ∷ [])) in
        let empty = conflict_empty (numbered_clauses problem kept) n h.0 h.1 (kept_stands problem old c lines turn) (all_stand problem kept (kept_sound problem old c lines turn sound) h.0 h.2.listed) h.3 in
        subst (IsEmptyAt problem new) (next ∙ number)
        (subst (λ (b : Book). IsEmptyAt problem b (next_number problem kept)) (sym h.4) (last_empty kept h.1.clause h.1.lines empty)))
        (λ h. dropped (Kept (next_number problem old)) (ap (λ (o : Processed). o.fate) h.told) (λ e. cc))

    meets_empty : MeetsFate problem old c lines turn new out → IsEmptyAt problem new k
    meets_empty (inl h) =
        let fate : Empty (next_number problem old) ≡ Empty k = sym (ap (λ (o : Processed). o.fate) h.1.1) ∙ is in
        let number : next_number problem old ≡ k = cc in
        subst (IsEmptyAt problem new) number (subst (λ (b : Book). IsEmptyAt problem b (next_number problem old)) (sym h.1.0) (last_empty old c lines h.0))
    meets_empty (inr h) = where_either (λ a. dropped Taut (ap (λ (o : Processed). o.fate) a.1) (λ e. cc))
        (where_either (λ a. dropped Heavy (ap (λ (o : Processed). o.fate) a.1) (λ e. cc))
        (where_either (λ a. dropped Long (ap (λ (o : Processed). o.fate) a.1) (λ e. cc))
        (where_either (λ a. dropped (Subsumed (a.0).number) (ap (λ (o : Processed). o.fate) a.2.1) (λ e. cc))
        keeps_empty))) h.1

  -- where the fate is Empty(k), clause k is empty
  pub processes_empty : (old : Book) (lines : List Line) (turn : ℕ) (new : Book) (out : Processed) (k : ℕ) → IsSound problem old → Processes problem old lines turn new out → out.fate ≡ Empty k → IsEmptyAt problem new k
  processes_empty old lines turn new out k sound h is = meets_empty old sound h.clause h.simplified turn new out k is h.fated

  -- ---- a turn

  -- what the work ends with is empty, where it is a clause
  abbrev FinishIsEmpty : Book → Finish → Type 0
  FinishIsEmpty book Done = Unit {0}
  FinishIsEmpty book (Found k) = IsEmptyAt problem book k
  FinishIsEmpty book TooMany = Unit {0}

  works_empty : (turn : ℕ) (given : Numbered) (usable : List Numbered) (passed : Site → Type 0) (n : ℕ) (book new : Book) (items : List Item) (f : Finish) → IsSound problem book
      → Works problem turn given usable passed n book items new f → FinishIsEmpty new f
  works_empty turn given usable passed n book new items f sound done = tt
  works_empty turn given usable passed n book new items f sound too_many = tt
  works_empty turn given usable passed n book new items f sound (nothing h w) = works_empty turn given usable passed _ book new _ f sound w
  works_empty turn given usable passed n book new items f sound (found {k = k} m o gives p e) = processes_empty book m.lines turn new o k sound p e
  works_empty turn given usable passed n book new items f sound (goes_on {mid = mid} m o gives p e w) = works_empty turn given usable passed _ mid new _ f (processes_sound problem book m.lines turn mid o sound p) w

  -- the goal of a run is an empty clause
  abbrev pub GoalIsEmpty : Run → Type 0
  GoalIsEmpty run = (goal : ℕ) → run.goal ≡ Some goal → IsEmptyAt problem run.book goal

  finish_goal : (book : Book) (f : Finish) → FinishIsEmpty book f → (goal : ℕ) → goal_of f ≡ Some goal → IsEmptyAt problem book goal
  finish_goal book Done h goal e = let bad : ◌≡◌ {A = Option ℕ} None (Some goal) = e in absurd cc
  finish_goal book (Found k) h goal e = let same : Some k ≡ Some goal = e in let number : k ≡ goal = cc in subst (IsEmptyAt problem book) number h
  finish_goal book TooMany h goal e = let bad : ◌≡◌ {A = Option ℕ} None (Some goal) = e in absurd cc

  infer_goal : (turn : ℕ) (old : Run) (seen : Seen) (new : Run) → IsSound problem old.book → Infer problem turn old seen new → GoalIsEmpty new
  infer_goal turn old seen new sound h =
      let moved = given_sound problem old.book h.given (selected_there problem old.book.sos turn h.name h.guide h.given h.cause h.selects) sound in
      subst GoalIsEmpty (sym h.goes_to) (finish_goal h.book h.finish (works_empty turn h.given (with_given old.book h.given).usable IsPassedOver 100000 (with_given old.book h.given) h.book _ h.finish moved h.works))

  turns_goal : (old : Run) (seen : Seen) (new : Run) → IsSound problem old.book → GoalIsEmpty old → Turns problem old seen new → GoalIsEmpty new
  turns_goal old seen new sound empty =
      where_either (λ h. subst GoalIsEmpty (sym h) empty) (where_either (λ h. subst GoalIsEmpty (sym h) empty) (where_either (λ h. subst GoalIsEmpty (sym h) empty) (infer_goal (length old.given + 1) old seen new sound)))

  -- ---- the start

  ends_with_goal : (opened : Book) → OpensBook problem opened → (p : Numbered) → Contains (input_clauses problem) p → (book : Book) (goal : Option ℕ) → EndsWith problem opened p book goal
      → (k : ℕ) → goal ≡ Some k → IsEmptyAt problem book k
  ends_with_goal opened opens p there book goal h k is = by h
    where
      stands : (x : Numbered) → Contains (input_clauses problem) x → StandsIn problem opened x
      stands x at = number_in_whole problem.inputs (map (λ (d : Derived). d.clause) opened.derived) x.number x.clause (input_stands problem x at)

      next : next_number problem opened ≡ length problem.inputs + 1
      next = ap (λ (ds : List Derived). length (all_clauses problem.inputs ds) + 1) opens.no_derived ∙ omega (arith, length-append problem.inputs [])

      by : EndsWith problem opened p book goal → IsEmptyAt problem book k
      by (inl a) =
          let same : Some p.number ≡ Some k = sym a.1.1 ∙ is in
          let number : p.number ≡ k = cc in
          subst (IsEmptyAt problem book) number (subst (λ (b : Book). IsEmptyAt problem b p.number) (sym a.1.0)
          (some_so (numbered (numbered_clauses problem opened) p.number) (λ d. d.literals ≡ []) p.clause (stands p there) a.0))
      by (inr a) =
          let same : Some (length problem.inputs + 1) ≡ Some k = sym a.1.5 ∙ is in
          let number : length problem.inputs + 1 ≡ k = cc in
          let empty = conflict_empty (numbered_clauses problem opened) p a.1.0 a.1.1 (stands p there) (stands a.1.0 a.1.2.listed) a.1.3 in
          subst (IsEmptyAt problem book) (next ∙ number) (subst (λ (b : Book). IsEmptyAt problem b (next_number problem opened)) (sym a.1.4) (last_empty opened a.1.1.clause a.1.1.lines empty))

  starts_goal : (book : Book) (goal : Option ℕ) → Starts problem book goal → (k : ℕ) → goal ≡ Some k → IsEmptyAt problem book k
  starts_goal book goal h k is =
      where_either (λ a. ends_with_goal h.opened h.opens a.0 a.1.listed book goal a.2 k is) (λ a. let bad : ◌≡◌ {A = Option ℕ} None (Some k) = sym a.1 ∙ is in absurd cc) h.ends

  -- ---- the run

  goes_over_goal : (looks : List Seen) (old new : Run) → IsSound problem old.book → GoalIsEmpty old → GoesOver problem old looks new → GoalIsEmpty new
  goes_over_goal [] old new sound empty h = subst GoalIsEmpty (sym h) empty
  goes_over_goal (look ∷ looks) old new sound empty h =
      let mid_sound : IsSound problem (h.0).book = where_either (λ a. subst (λ (r : Run). IsSound problem r.book) (sym a) sound) (turns_sound problem old look h.0 sound) h.1 in
      let mid : GoalIsEmpty h.0 = where_either (λ a. subst GoalIsEmpty (sym a) empty) (turns_goal old look h.0 sound empty) h.1 in
      goes_over_goal looks h.0 new mid_sound mid h.2

  pub run_goal : (looks : List Seen) (run : Run) → IsProblem problem → IsRun problem looks run → GoalIsEmpty run
  run_goal looks run such h = goes_over_goal looks (started h.book h.goal) run (starts_sound problem h.book h.goal such h.starts) (starts_goal h.book h.goal h.starts) h.goes

-- a run that has found the empty clause refutes its input clauses
pub run_refutes : RunRefutes
run_refutes problem looks run goal lines such h is splice =
    let proof = proves problem.inputs run.book.derived goal lines (run_derived problem looks run such h) splice (run_goal problem looks run such h goal is) in
    (proof, proof-refutes problem.inputs lines proof)
