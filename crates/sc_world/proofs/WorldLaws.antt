-- What a machine over events keeps.
use Rattle.std.proofs.Common.{◌≡◌, ◌∙◌, sym, ap, subst, refl, ℕ, ◌+◌, ◌<◌, inl, inr, List, [], ◌∷◌, ◌++◌, length, get_or, map, Option, Some, None, arith}
use Rattle.std.specs.Prelude.{IsSome}
use Rattle.std.specs.List.{AllPairs, AllByRecursion}
use Rattle.std.proofs.lemmas.List.{map-append}
use Rattle.std.proofs.lemmas.List.Quantifiers.{all_pairs_push}
use Rattle.sc_term.specs.Numbering.{numbered, with_element}
use Rattle.sc_term.proofs.SubstitutionLaws.{all_join}
use Rattle.sc_steps.proofs.ListLaws.{some_and}
use Rattle.sc_input_rules.specs.Problem.{Stated}
use Rattle.sc_input_rules.specs.WellFormed.{IsProblem}
use Rattle.sc_interp.specs.Versions.{ClaimedStructure}
use Rattle.sc_core_rules.specs.declared.row.GivenRow.{GivenRow}
use Rattle.sc_core_rules.specs.declared.row.Outcome.{Outcome}
use Rattle.sc_core_rules.specs.declared.row.Outcome.TheVariants as outcome
use Rattle.sc_core_rules.specs.Book.{Book}
use Rattle.sc_core_rules.specs.Start.{Starts}
use Rattle.sc_core_rules.specs.Selection.{Seen}
use Rattle.sc_core_rules.specs.WorkList.{Finish, Done, Found, TooMany}
use Rattle.sc_core_rules.specs.Turn.{Run, Turns, Infer, with_end, outcome_of, goal_of}
use Rattle.sc_core_rules.specs.Run.{IsRun, Goes, started, RunRefutes}
use Rattle.sc_core_laws.specs.LeavesInTime.{LeavesInTime}
use Rattle.sc_core_laws.specs.TrueRows.{IsFrontOf, RowsAreTrue}
use Rattle.sc_guide.specs.Guided.{lengths_of}
use Rattle.sc_core.specs.State.{look_told, AreLengthsIn, SeesNoFewer}
use Rattle.sc_core.proofs.CountLaws.{run_turns}
use Rattle.sc_core.proofs.LookLaws.{whole_look, all_lengths, no_more, at_place, told_stay, same_led}
use Rattle.sc_world.specs.Events.{Machine, Event, Publish, Look, Turn, Happens, HappenAll, IsAtStart, IsAfter}
use Rattle.sc_world.specs.Kept.{looks_made, looks_of_turns, IsMade, Holds}
use Rattle.sc_world.proofs.WorldFronts.{begins_itself, nothing_front, numbered_front, grow_published, grow_seen, grown_from, looks_front}

-- ---- the looks of the turns

same_made : (o : Option Outcome) (rows : List GivenRow) (published other last : Seen) → map (look_told other) rows ≡ map (look_told published) rows
    → looks_made o rows other last ≡ looks_made o rows published last
same_made None rows published other last e = e
same_made (Some outcome.Proof) rows published other last e = e
same_made (Some (outcome.WorkLimit n)) rows published other last e = e
same_made (Some outcome.SosEmpty) rows published other last e = ap (λ (looks : List Seen). looks ++ last ∷ []) e
same_made (Some (outcome.GivenLimit n)) rows published other last e = ap (λ (looks : List Seen). looks ++ last ∷ []) e
same_made (Some (outcome.KeptLimit n)) rows published other last e = ap (λ (looks : List Seen). looks ++ last ∷ []) e

-- a turn with a row gives one look for each row
made_with_row : (turn : ℕ) (finish : Finish) (rows : List GivenRow) (published last : Seen) → looks_made (outcome_of turn finish) rows published last ≡ map (look_told published) rows
made_with_row turn Done rows published last = refl
made_with_row turn (Found n) rows published last = refl
made_with_row turn TooMany rows published last = refl

-- the goal of a turn that ended with a proof
goal_found : (turn : ℕ) (finish : Finish) → outcome_of turn finish ≡ Some outcome.Proof → (n : ℕ) × (goal_of finish ≡ Some n)
goal_found turn Done e = let bad : ◌≡◌ {A = Option Outcome} None (Some outcome.Proof) = e in absurd cc
goal_found turn (Found n) e = (n, refl)
goal_found turn TooMany e = let bad : ◌≡◌ {A = Option Outcome} (Some (outcome.WorkLimit turn)) (Some outcome.Proof) = e in absurd cc

last_front : (o : Option Outcome) (rows : List GivenRow) (published seen : Seen) → IsFrontOf published seen → AllByRecursion (AreLengthsIn published) rows
    → AllByRecursion (IsFrontOf published) (looks_made o rows published seen)
last_front None rows published seen f h = looks_front published rows h
last_front (Some outcome.Proof) rows published seen f h = looks_front published rows h
last_front (Some (outcome.WorkLimit n)) rows published seen f h = looks_front published rows h
last_front (Some outcome.SosEmpty) rows published seen f h = all_join (IsFrontOf published) (map (look_told published) rows) (seen ∷ []) (looks_front published rows h) (f, tt)
last_front (Some (outcome.GivenLimit n)) rows published seen f h = all_join (IsFrontOf published) (map (look_told published) rows) (seen ∷ []) (looks_front published rows h) (f, tt)
last_front (Some (outcome.KeptLimit n)) rows published seen f h = all_join (IsFrontOf published) (map (look_told published) rows) (seen ∷ []) (looks_front published rows h) (f, tt)

module _ (problem : Stated) where
  -- ---- the start

  pub start_made : (book : Book) (goal : Option ℕ) (published seen : Seen) → Starts problem book goal
      → IsMade problem (record { published = published; seen = seen; run = started book goal })
  start_made book goal published seen h = record {
    is_run = λ last. subst (λ (looks : List Seen). IsRun problem looks (started book goal)) (sym (none_made goal last)) (record { book = book; goal = goal; starts = h; goes = refl });
    told = tt;
    grow = λ i j d below within. absurd (omega (arith, within));
    goal = has_goal goal;
  }
    where
      none_made : (g : Option ℕ) (last : Seen) → looks_made (started book g).ended [] published last ≡ []
      none_made None last = refl
      none_made (Some n) last = refl

      has_goal : (g : Option ℕ) → (started book g).ended ≡ Some outcome.Proof → (n : ℕ) × (g ≡ Some n)
      has_goal None e = let bad : ◌≡◌ {A = Option Outcome} None (Some outcome.Proof) = e in absurd cc
      has_goal (Some n) e = (n, refl)

  -- ---- more is published, or seen

  pub more_published : (m : Machine) (other : Seen) → IsFrontOf other m.published → IsFrontOf m.published m.seen → IsMade problem m → IsMade problem (record m { published = other })
  more_published m other more front h = record {
    is_run = λ last. subst (λ (looks : List Seen). IsRun problem looks m.run)
        (sym (same_made m.run.ended m.run.given m.published other last (same_led m.published other more None m.run.given (told_stay m.seen m.published front m.run.given h.told))))
        (h.is_run last);
    told = h.told;
    grow = h.grow;
    goal = h.goal;
  }

  pub more_seen : (m : Machine) (other : Seen) → IsFrontOf other m.seen → IsMade problem m → IsMade problem (record m { seen = other })
  more_seen m other more h = record {
    is_run = h.is_run;
    told = told_stay m.seen other more m.run.given h.told;
    grow = h.grow;
    goal = h.goal;
  }

  -- ---- a turn

  module _ (m : Machine) (front : IsFrontOf m.published m.seen) (h : IsMade problem m) (going : m.run.ended ≡ None) where
    abbrev looks_so_far : List Seen
    looks_so_far = map (look_told m.published) m.run.given

    so_far : IsRun problem looks_so_far m.run
    so_far = subst (λ (o : Option Outcome). IsRun problem (looks_made o m.run.given m.published m.seen) m.run) going (h.is_run m.seen)

    -- without a row it ends the run so, whatever is seen
    ended_by : (o : Outcome) (new : Run) → new ≡ with_end m.run o → ((last : Seen) → looks_made (Some o) m.run.given m.published last ≡ looks_so_far ++ last ∷ [])
        → ((e : ◌≡◌ {A = Option Outcome} (Some o) (Some outcome.Proof)) → ⊥) → ((look : Seen) → Turns problem m.run look (with_end m.run o)) → IsMade problem (record m { run = new })
    ended_by o new e looks no_proof turns = subst (λ (r : Run). IsMade problem (record m { run = r })) (sym e) (record {
      is_run = λ last. subst (λ (ls : List Seen). IsRun problem ls (with_end m.run o)) (sym (looks last)) (run_turns problem looks_so_far last m.run (with_end m.run o) so_far going (turns last));
      told = h.told;
      grow = h.grow;
      goal = λ proof. absurd (no_proof proof);
    })

    -- a clause is given
    given_one : (new : Run) → Turns problem m.run m.seen new → Infer problem (length m.run.given + 1) m.run m.seen new → IsMade problem (record m { run = new })
    given_one new turn i = record {
      is_run = λ last. subst (λ (ls : List Seen). IsRun problem ls new) (sym (looks last)) (run_turns problem looks_so_far m.seen m.run new so_far going turn);
      told = subst (AllByRecursion (AreLengthsIn m.seen)) (sym rows) (all_join (AreLengthsIn m.seen) m.run.given (row ∷ []) h.told (all_lengths m.seen, tt));
      grow = subst (AllPairs SeesNoFewer) (sym rows) (all_pairs_push SeesNoFewer m.run.given row h.grow fewer);
      goal = found;
    }
      where
        row : GivenRow
        row = record { turn = length m.run.given + 1; number = i.given.number; cause = i.cause; name = i.name; truth = i.truth; lengths = lengths_of m.seen }

        rows : new.given ≡ m.run.given ++ row ∷ []
        rows = ap (λ (run : Run). run.given) i.goes_to

        this_look : map (look_told m.published) (row ∷ []) ≡ m.seen ∷ []
        this_look = same_led m.seen m.published front None (row ∷ []) (all_lengths m.seen, tt) ∙ ap (λ (look : Seen). look ∷ []) (whole_look m.seen)

        looks : (last : Seen) → looks_made new.ended new.given m.published last ≡ looks_so_far ++ m.seen ∷ []
        looks last =
            ap (λ (run : Run). looks_made run.ended run.given m.published last) i.goes_to
            ∙ made_with_row (length m.run.given + 1) i.finish (m.run.given ++ row ∷ []) m.published last
            ∙ map-append (look_told m.published) m.run.given (row ∷ [])
            ∙ ap (λ (ls : List Seen). looks_so_far ++ ls) this_look

        fewer : (k : ℕ) (d : GivenRow) → k < length m.run.given → SeesNoFewer (get_or m.run.given k d) row
        fewer k d less = no_more (get_or m.run.given k d).lengths m.seen (at_place (AreLengthsIn m.seen) m.run.given h.told k d less)

        found : new.ended ≡ Some outcome.Proof → (n : ℕ) × (new.goal ≡ Some n)
        found e =
            let goal = goal_found (length m.run.given + 1) i.finish (sym (ap (λ (run : Run). run.ended) i.goes_to) ∙ e) in
            (goal.0, ap (λ (run : Run). run.goal) i.goes_to ∙ goal.1)

    by_turn : (new : Run) → Turns problem m.run m.seen new → Turns problem m.run m.seen new → IsMade problem (record m { run = new })
    by_turn new turn (inl k) = ended_by outcome.SosEmpty new k.1 (λ last. refl) (λ e. cc) (λ look. inl (k.0, refl))
    by_turn new turn (inr (some, inl k)) = ended_by (outcome.GivenLimit (length m.run.given)) new k.1 (λ last. refl) (λ e. cc) (λ look. inr (some, inl (k.0, refl)))
    by_turn new turn (inr (some, inr (below, inl k))) =
        ended_by (outcome.KeptLimit (length m.run.book.kept)) new k.1 (λ last. refl) (λ e. cc) (λ look. inr (some, inr (below, inl (k.0, refl))))
    by_turn new turn (inr (some, inr (below, inr (fewer, i)))) = given_one new turn i

    pub turn_made : (new : Run) → Turns problem m.run m.seen new → IsMade problem (record m { run = new })
    turn_made new turn = by_turn new turn turn

  -- ---- events

  some_or_none : (o : Option Outcome) → (¬ IsSome o) → o ≡ None
  some_or_none None h = refl
  some_or_none (Some x) h = absurd (h refl)

  -- the seen lists begin the published ones, and the run is that of the turns that were made
  abbrev IsRight : Machine → Type 0
  IsRight m = IsFrontOf m.published m.seen × IsMade problem m

  module _ (old : Machine) (right : IsRight old) where
    publish_right : (f : ℕ) (v : ClaimedStructure) (versions : List ClaimedStructure) → numbered old.published f ≡ Some versions
        → IsRight (record old { published = with_element old.published f (versions ++ v ∷ []) })
    publish_right f v versions e =
        let more = grown_from old.published f versions (versions ++ v ∷ []) e (v ∷ [], refl) in (
          grow_published old.seen old.published f versions (versions ++ v ∷ []) right.0 e (v ∷ [], refl),
          more_published old (with_element old.published f (versions ++ v ∷ [])) more right.0 right.1,
        )

    look_right : (f : ℕ) (versions : List ClaimedStructure) → numbered old.published f ≡ Some versions → IsRight (record old { seen = with_element old.seen f versions })
    look_right f versions e =
        let before = numbered_front old.seen old.published f versions right.0 e in (
          grow_seen old.seen old.published f versions versions right.0 e (begins_itself versions),
          more_seen old (with_element old.seen f versions) (grown_from old.seen f before.0 versions before.1 before.2) right.1,
        )

    turn_right : (run : Run) → Goes problem old.run old.seen run → IsRight (record old { run = run })
    turn_right run (inl k) = subst (λ (r : Run). IsRight (record old { run = r })) (sym k.1) right
    turn_right run (inr k) = (right.0, turn_made old right.0 right.1 (some_or_none old.run.ended k.0) run k.1)

    pub happens_right : (e : Event) (new : Machine) → Happens problem old e new → IsRight new
    happens_right (Publish f v) new h =
        let found = some_and (numbered old.published f) (λ versions. new ≡ record old { published = with_element old.published f (versions ++ v ∷ []) }) h in
        subst IsRight (sym found.2) (publish_right f v found.0 found.1)
    happens_right (Look f) new h =
        let found = some_and (numbered old.published f) (λ versions. new ≡ record old { seen = with_element old.seen f versions }) h in
        subst IsRight (sym found.2) (look_right f found.0 found.1)
    happens_right Turn new h = subst IsRight (sym h.2) (turn_right h.0 h.1)

  all_right : (es : List Event) (old new : Machine) → IsRight old → HappenAll problem old es new → IsRight new
  all_right [] old new right h = subst IsRight (sym h) right
  all_right (e ∷ es) old new right h = all_right es h.0 new (happens_right old right e h.0 h.1) h.2

  start_right : (finders : ℕ) (m : Machine) → IsAtStart problem finders m → IsRight m
  start_right finders m h = subst IsRight (sym h.3) (nothing_front finders, start_made h.0 h.1 _ _ h.2)

  pub after_right : (finders : ℕ) (events : List Event) (m : Machine) → IsAfter problem finders events m → IsRight m
  after_right finders events m h = all_right events h.0 m (start_right finders h.0 h.1) h.2

  -- ---- what follows

  pub holds : IsProblem problem → RowsAreTrue → LeavesInTime → RunRefutes → (m : Machine) → IsFrontOf m.published m.seen → IsMade problem m → Holds problem m
  holds such rows_true in_time run_refutes m front made = record {
    prefixes = front;
    made = made;
    true_rows = rows_true problem m.published (looks_of_turns m m.seen) m.run such
        (last_front m.run.ended m.run.given m.published m.seen front (told_stay m.seen m.published front m.run.given made.told)) (made.is_run m.seen);
    in_time = λ last n t put has. in_time problem (looks_of_turns m last) m.run n t (made.is_run last) put has;
    refutes = λ ended.
        let goal = made.goal ended in
        record {
          goal = goal.0;
          found = goal.1;
          proof = λ lines splice. (run_refutes problem (looks_of_turns m m.seen) m.run goal.0 lines such (made.is_run m.seen) goal.1 splice).0;
          refuted = λ lines splice. (run_refutes problem (looks_of_turns m m.seen) m.run goal.0 lines such (made.is_run m.seen) goal.1 splice).1;
        };
  }
