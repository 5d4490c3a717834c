-- How many clauses a run has derived, kept and given.
use Rattle.std.proofs.Common.{◌≡◌, ◌≢◌, ◌∙◌, sym, ap, subst, refl, ℕ, ◌+◌, ◌<◌, ◌≤◌, inl, inr, List, [], ◌∷◌, ◌++◌, length, length-append, map, Option, Some, None, Bool, true, false, arith}
use Rattle.std.specs.Prelude.{IsSome}
use Rattle.std.proofs.lemmas.List.{length-map}
use Rattle.sc_term.specs.declared.Clause.{Clause}
use Rattle.sc_term.specs.declared.Line.{Line}
use Rattle.sc_term.specs.declared.Numbered.{Numbered}
use Rattle.sc_steps.specs.declared.derivations.derivation.Derived.{Derived}
use Rattle.sc_steps.specs.Derivation.{all_clauses}
use Rattle.sc_input_rules.specs.Problem.{Stated}
use Rattle.sc_core_rules.specs.declared.fate.Fate.TheVariants.{Empty}
use Rattle.sc_core_rules.specs.declared.fate.Processed.{Processed}
use Rattle.sc_core_rules.specs.declared.row.KeptRow.{KeptRow}
use Rattle.sc_core_rules.specs.declared.row.Outcome.{Outcome}
use Rattle.sc_core_rules.specs.declared.row.Outcome.TheVariants as outcome
use Rattle.sc_core_rules.specs.Book.{Book, next_number, weight_in, with_derived}
use Rattle.sc_core_rules.specs.Processing.{with_kept, Sweeps, Processes}
use Rattle.sc_core_rules.specs.Start.{OpensBook, Starts}
use Rattle.sc_core_rules.specs.Selection.{Seen}
use Rattle.sc_core_rules.specs.Sites.{Site}
use Rattle.sc_core_rules.specs.WorkList.{Item, Finish, Done, Found, TooMany, Works, done, too_many, nothing, found, goes_on}
use Rattle.sc_core_rules.specs.Turn.{Run, Infer, Turns, IsPassedOver, with_given, with_end, outcome_of, goal_of}
use Rattle.sc_core_rules.specs.Run.{Goes, GoesOver, IsRun, started}
use Rattle.sc_core.specs.Counts.{HasKeptAll, IsCounted}
use Rattle.sc_core_rules.proofs.ProcessLaws.{Becomes}
use Rattle.sc_core_rules.proofs.SoundProcessing.{where_either}

module _ (problem : Stated) where
  -- ---- processing

  kept_keeps : (old : Book) (c : Clause) (lines : List Line) (turn : ℕ) → HasKeptAll old → HasKeptAll (with_kept problem old c lines turn)
  kept_keeps old c lines turn all_kept =
      let derived = length-append old.derived (record { clause = c; lines = lines } ∷ []) in
      let kept = length-append old.kept (record { number = next_number problem old; turn = turn; weight = weight_in problem c; clause = c } ∷ []) in
      derived ∙ ap (λ (n : ℕ). n + 1) all_kept ∙ sym kept

  sweeps_keeps_all : (old : Book) (n : Numbered) (new : Book) (out : Processed) → HasKeptAll old → Sweeps problem old n new out → HasKeptAll new
  sweeps_keeps_all old n new out all_kept h = by h.becomes
    where
      by : Becomes problem old n new h.subsumed h.rewritten → HasKeptAll new
      by (inl k) = subst HasKeptAll (sym k.1.1) all_kept
      by (inr k) = subst HasKeptAll (sym k.1.1) all_kept

  fate_empty : (out : Processed) (k : ℕ) → out ≡ record { fate = Empty k; gone = []; again = [] } → out.fate ≡ Empty k
  fate_empty out k e = ap (λ (o : Processed). o.fate) e

  -- where the fate isn't that of an empty clause
  processes_keeps_all : (old : Book) (lines : List Line) (turn : ℕ) (new : Book) (out : Processed) → HasKeptAll old → ((k : ℕ) → out.fate ≢ Empty k) → Processes problem old lines turn new out → HasKeptAll new
  processes_keeps_all old lines turn new out all_kept never h =
      where_either (λ a. absurd (never (next_number problem old) (fate_empty out (next_number problem old) a.1)))
      (where_either (λ a. subst HasKeptAll (sym a.0) all_kept)
      (where_either (λ a. subst HasKeptAll (sym a.0) all_kept)
      (where_either (λ a. subst HasKeptAll (sym a.0) all_kept)
      (where_either (λ a. subst HasKeptAll (sym a.2.0) all_kept)
      (where_either (λ a. absurd (never (next_number problem old + 1) (fate_empty out (next_number problem old + 1) a.5)))
      (sweeps_keeps_all (with_kept problem old h.clause h.simplified turn) (record { number = next_number problem old; clause = h.clause }) new out (kept_keeps old h.clause h.simplified turn all_kept))))))) h.fated

  -- one more is kept at most
  kept_one : (old : Book) (c : Clause) (lines : List Line) (turn : ℕ) → length (with_kept problem old c lines turn).kept ≤ length old.kept + 1
  kept_one old c lines turn = omega (arith, length-append old.kept (record { number = next_number problem old; turn = turn; weight = weight_in problem c; clause = c } ∷ []))

  sweeps_few : (old : Book) (n : Numbered) (new : Book) (out : Processed) → Sweeps problem old n new out → length new.kept ≤ length old.kept
  sweeps_few old n new out h = by h.becomes
    where
      by : Becomes problem old n new h.subsumed h.rewritten → length new.kept ≤ length old.kept
      by (inl k) = subst (λ (b : Book). length b.kept ≤ length old.kept) (sym k.1.1) (omega arith)
      by (inr k) = subst (λ (b : Book). length b.kept ≤ length old.kept) (sym k.1.1) (omega arith)

  processes_few : (old : Book) (lines : List Line) (turn : ℕ) (new : Book) (out : Processed) → Processes problem old lines turn new out → length new.kept ≤ length old.kept + 1
  processes_few old lines turn new out h =
      where_either (λ a. stays (record old { derived = old.derived ++ record { clause = h.clause; lines = h.simplified } ∷ [] }) a.0 (omega arith))
      (where_either (λ a. stays old a.0 (omega arith))
      (where_either (λ a. stays old a.0 (omega arith))
      (where_either (λ a. stays old a.0 (omega arith))
      (where_either (λ a. stays old a.2.0 (omega arith))
      (where_either (λ a. stays (with_derived (with_kept problem old h.clause h.simplified turn) a.1.clause a.1.lines) a.4 (kept_one old h.clause h.simplified turn))
      (λ a.
      let few = sweeps_few (with_kept problem old h.clause h.simplified turn) (record { number = next_number problem old; clause = h.clause }) new out a in
      let one = kept_one old h.clause h.simplified turn in
      omega (arith, few, one))))))) h.fated
    where
      stays : (b : Book) → new ≡ b → length b.kept ≤ length old.kept + 1 → length new.kept ≤ length old.kept + 1
      stays b e few = subst (λ (x : Book). length x.kept ≤ length old.kept + 1) (sym e) few

  -- ---- the work list

  works_few : (turn : ℕ) (given : Numbered) (usable : List Numbered) (passed : Site → Type 0) (n : ℕ) (book new : Book) (items : List Item) (f : Finish)
      → Works problem turn given usable passed n book items new f → length new.kept ≤ length book.kept + n
  works_few turn given usable passed n book new items f done = omega arith
  works_few turn given usable passed n book new items f too_many = omega arith
  works_few turn given usable passed n book new items f (nothing h w) = let few = works_few turn given usable passed _ book new _ f w in omega (arith, few)
  works_few turn given usable passed n book new items f (found m o gives p e) = let few = processes_few book m.lines turn new o p in omega (arith, few)
  works_few turn given usable passed n book new items f (goes_on {mid = mid} m o gives p e w) =
      let few = processes_few book m.lines turn mid o p in
      let more = works_few turn given usable passed _ mid new _ f w in
      omega (arith, few, more)

  abbrev EndsSo : Book → Finish → Type 0
  EndsSo book Done = HasKeptAll book
  EndsSo book (Found n) = Unit {0}
  EndsSo book TooMany = Unit {0}

  works_keeps_all : (turn : ℕ) (given : Numbered) (usable : List Numbered) (passed : Site → Type 0) (n : ℕ) (book new : Book) (items : List Item) (f : Finish) → HasKeptAll book
      → Works problem turn given usable passed n book items new f → EndsSo new f
  works_keeps_all turn given usable passed n book new items f all_kept done = all_kept
  works_keeps_all turn given usable passed n book new items f all_kept too_many = tt
  works_keeps_all turn given usable passed n book new items f all_kept (nothing h w) = works_keeps_all turn given usable passed _ book new _ f all_kept w
  works_keeps_all turn given usable passed n book new items f all_kept (found m o gives p e) = tt
  works_keeps_all turn given usable passed n book new items f all_kept (goes_on {mid = mid} m o gives p e w) =
      works_keeps_all turn given usable passed _ mid new _ f (processes_keeps_all book m.lines turn mid o all_kept e p) w

  -- ---- a turn

  -- an outcome that is no proof
  ended_counted : (old : Run) (o : Outcome) → o ≢ outcome.Proof → IsCounted problem old → IsCounted problem (with_end old o)
  ended_counted old o other h = record {
    all_kept = λ e. let bad : ◌≡◌ {A = Option Outcome} (Some o) None = e in absurd cc;
    few_given = h.few_given;
    few_kept = h.few_kept;
    goal = λ e. let same : Some o ≡ Some outcome.Proof = e in let is : o ≡ outcome.Proof = cc in absurd (other is);
  }

  finish_keeps_all : (turn : ℕ) (book : Book) (f : Finish) → EndsSo book f → outcome_of turn f ≡ None → HasKeptAll book
  finish_keeps_all turn book Done h e = h
  finish_keeps_all turn book (Found n) h e = let bad : ◌≡◌ {A = Option Outcome} (Some outcome.Proof) None = e in absurd cc
  finish_keeps_all turn book TooMany h e = let bad : ◌≡◌ {A = Option Outcome} (Some (outcome.WorkLimit turn)) None = e in absurd cc

  finish_goal : (turn : ℕ) (f : Finish) → outcome_of turn f ≡ Some outcome.Proof → (n : ℕ) × (goal_of f ≡ Some n)
  finish_goal turn Done e = let bad : ◌≡◌ {A = Option Outcome} None (Some outcome.Proof) = e in absurd cc
  finish_goal turn (Found n) e = (n, refl)
  finish_goal turn TooMany e = let bad : Some (outcome.WorkLimit turn) ≡ Some outcome.Proof = e in absurd cc

  infer_counted : (old : Run) (seen : Seen) (new : Run) → old.ended ≡ None → length old.given < problem.params.max_given → length old.book.kept < problem.params.max_kept → IsCounted problem old → Infer problem (length old.given + 1) old seen new → IsCounted problem new
  infer_counted old seen new going room space h k =
      let all_kept : EndsSo k.book k.finish = works_keeps_all (length old.given + 1) k.given (with_given old.book k.given).usable IsPassedOver 100000 (with_given old.book k.given) k.book _ k.finish (h.all_kept going) k.works in
      subst (IsCounted problem) (sym k.goes_to) (record {
        all_kept = λ e. finish_keeps_all (length old.given + 1) k.book k.finish all_kept e;
        few_given = omega (arith, length-append old.given, room);
        few_kept = (let few = works_few (length old.given + 1) k.given (with_given old.book k.given).usable IsPassedOver 100000 (with_given old.book k.given) k.book _ k.finish k.works in omega (arith, few, space));
        goal = λ e. finish_goal (length old.given + 1) k.finish e;
      })

  turns_counted : (old : Run) (seen : Seen) (new : Run) → old.ended ≡ None → IsCounted problem old → Turns problem old seen new → IsCounted problem new
  turns_counted old seen new going h (inl k) = subst (IsCounted problem) (sym k.1) (ended_counted old outcome.SosEmpty (λ e. cc) h)
  turns_counted old seen new going h (inr (k, inl l)) = subst (IsCounted problem) (sym l.1) (ended_counted old (outcome.GivenLimit (length old.given)) (λ e. cc) h)
  turns_counted old seen new going h (inr (k, inr (never, inl l))) = subst (IsCounted problem) (sym l.1) (ended_counted old (outcome.KeptLimit (length old.book.kept)) (λ e. cc) h)
  turns_counted old seen new going h (inr (k, inr (never, inr l))) =
      let few = h.few_given in
      let room = l.0 in
      infer_counted old seen new going (less (length old.given) problem.params.max_given few never) (omega (arith, room)) h l.1
    where
      less : (m n : ℕ) → m ≤ n → m ≢ n → m < n
      less m n h other = grind (arith, h, other)

  -- ---- the run

  starts_counted : (book : Book) (goal : Option ℕ) → Starts problem book goal → IsCounted problem (started book goal)
  starts_counted book goal h = record { all_kept = all_kept goal h; few_given = omega arith; few_kept = (let none = no_kept in omega (arith, none)); goal = proof goal }
    where
      proof : (goal : Option ℕ) → (started book goal).ended ≡ Some outcome.Proof → (n : ℕ) × (goal ≡ Some n)
      proof None e = let bad : ◌≡◌ {A = Option Outcome} None (Some outcome.Proof) = e in absurd cc
      proof (Some n) e = (n, refl)

      none_kept : (b : Book) → OpensBook problem b → length b.kept ≤ 0
      none_kept b o = let e = ap (λ (rows : List KeptRow). length rows) o.no_kept in omega (arith, e)

      no_kept : length book.kept ≤ 0
      no_kept =
          where_either
          (λ a. where_either (λ b. subst (λ (x : Book). length x.kept ≤ 0) (sym b.0) (none_kept h.opened h.opens)) (λ b. subst (λ (x : Book). length x.kept ≤ 0) (sym b.4) (none_kept h.opened h.opens)) a.2)
          (λ a. subst (λ (x : Book). length x.kept ≤ 0) (sym a.0) (none_kept h.opened h.opens)) h.ends

      opened : (b : Book) → OpensBook problem b → HasKeptAll b
      opened b o = ap (λ (ds : List Derived). length ds) o.no_derived ∙ sym (ap (λ (rows : List KeptRow). length rows) o.no_kept)

      all_kept : (goal : Option ℕ) → Starts problem book goal → (started book goal).ended ≡ None → HasKeptAll book
      all_kept (Some n) h e = let bad : ◌≡◌ {A = Option Outcome} (Some outcome.Proof) None = e in absurd cc
      all_kept None h e =
          where_either
          (λ a. where_either (λ b. subst HasKeptAll (sym b.0) (opened h.opened h.opens)) (λ b. let bad : ◌≡◌ {A = Option ℕ} None (Some (length problem.inputs + 1)) = b.5 in absurd cc) a.2)
          (λ a. subst HasKeptAll (sym a.0) (opened h.opened h.opens)) h.ends

  some_or_none : (o : Option Outcome) → (¬ IsSome o) → o ≡ None
  some_or_none None h = refl
  some_or_none (Some x) h = absurd (h refl)

  goes_counted : (old : Run) (look : Seen) (new : Run) → IsCounted problem old → Goes problem old look new → IsCounted problem new
  goes_counted old look new h (inl k) = subst (IsCounted problem) (sym k.1) h
  goes_counted old look new h (inr k) = turns_counted old look new (some_or_none old.ended k.0) h k.1

  goes_over_counted : (looks : List Seen) (old new : Run) → IsCounted problem old → GoesOver problem old looks new → IsCounted problem new
  goes_over_counted [] old new h k = subst (IsCounted problem) (sym k) h
  goes_over_counted (look ∷ looks) old new h k = goes_over_counted looks k.0 new (goes_counted old look k.0 h k.1) k.2

  pub run_counted : (looks : List Seen) (run : Run) → IsRun problem looks run → IsCounted problem run
  run_counted looks run h = goes_over_counted looks (started h.book h.goal) run (starts_counted h.book h.goal h.starts) h.goes

  -- ---- one more turn

  goes_over_more : (looks : List Seen) (look : Seen) (old mid new : Run) → GoesOver problem old looks mid → Goes problem mid look new → GoesOver problem old (looks ++ look ∷ []) new
  goes_over_more [] look old mid new h k = (new, subst (λ (r : Run). Goes problem r look new) h k, refl)
  goes_over_more (first ∷ looks) look old mid new h k = (h.0, h.1, goes_over_more looks look h.0 mid new h.2 k)

  -- a run that goes on by a turn is a run over one look more
  pub run_turns : (looks : List Seen) (look : Seen) (old new : Run) → IsRun problem looks old → old.ended ≡ None → Turns problem old look new → IsRun problem (looks ++ look ∷ []) new
  run_turns looks look old new h going turn = record {
    book = h.book;
    goal = h.goal;
    starts = h.starts;
    goes = goes_over_more looks look (started h.book h.goal) old new h.goes (inr (none going, turn));
  }
    where
      none : old.ended ≡ None → ¬ IsSome old.ended
      none e some = let bad : ◌≡◌ {A = Bool} false true = subst IsSome e some in cc

  -- a run that has ended takes one look more
  pub run_stays : (looks : List Seen) (look : Seen) (run : Run) → IsRun problem looks run → (o : Outcome) → run.ended ≡ Some o → IsRun problem (looks ++ look ∷ []) run
  run_stays looks look run h o ended = record {
    book = h.book;
    goal = h.goal;
    starts = h.starts;
    goes = goes_over_more looks look (started h.book h.goal) run run h.goes (inl (subst IsSome (sym ended) refl, refl));
  }

-- how many clauses have a number
pub count_all : (inputs : List Clause) (derived : List Derived) → length (all_clauses inputs derived) ≡ length inputs + length derived
count_all inputs derived = length-append inputs (map (λ (d : Derived). d.clause) derived) ∙ ap (λ n. length inputs + n) (length-map derived (λ (d : Derived). d.clause))
