-- The events that a text tells lead to the run that it tells.
use Rattle.std.proofs.Common.{◌≡◌, ◌≢◌, ◌∙◌, sym, ap, subst, refl, ℕ, zero, suc, ◌+◌, ◌-◌, inl, inr, List, [], ◌∷◌, ◌++◌, append_assoc, length, length-append, map, take, drop, replicate, slice_get, Option, Some, None, Bool, true, false, arith}
use Rattle.std.specs.Prelude.{slice_set, IsSome}
use Rattle.std.specs.List.{AllZip, AllByRecursion}
use Rattle.std.proofs.lemmas.List.{append-nil, length-replicate}
use Rattle.sc_term.specs.Numbering.{numbered, with_element}
use Rattle.sc_input_rules.specs.Problem.{Stated}
use Rattle.sc_interp.specs.Versions.{ClaimedStructure}
use Rattle.sc_core_rules.specs.declared.row.GivenRow.{GivenRow}
use Rattle.sc_core_rules.specs.declared.row.Outcome.{Outcome}
use Rattle.sc_core_rules.specs.declared.row.Outcome.TheVariants as outcome
use Rattle.sc_core_rules.specs.Selection.{Seen}
use Rattle.sc_core_rules.specs.Turn.{Run, Turns, Infer}
use Rattle.sc_core_rules.specs.Run.{IsPrefixOf, Grow, Goes, GoesOver, started, prefixes, looks_after, looks_of}
use Rattle.sc_core_rules.proofs.NumberLaws.{numbered-suc}
use Rattle.sc_core.proofs.LookLaws.{whole_look}
use Rattle.sc_text_run_rules.specs.RunValue.{RunValue}
use Rattle.sc_world.specs.Recorded.{Tells}
use Rattle.sc_world.specs.Events.{Event, Publish, Look, Turn, Machine, Happens, HappenAll, IsAfter}
use Rattle.sc_world.specs.EventsTold.{sights, turns_told, last_lengths, ending_turn, at_first_row, events_told, TextIsOfEvents}
use Rattle.sc_world.proofs.WorldFronts.{front_of}
use Rattle.sc_world.proofs.WorldSteps.{some_is}

-- ---- fronts of one list

-- a front, and what a longer front has beyond it
front_and_new : {X : Type 0} (from up : ℕ) (xs : List X) → IsPrefixOf (take from xs) (take up xs) → take from xs ++ drop from (take up xs) ≡ take up xs
front_and_new zero up xs h = refl
front_and_new (suc from) zero [] h = refl
front_and_new (suc from) (suc up) [] h = refl
front_and_new {X} (suc from) zero (x ∷ xs) h = let never : ◌≡◌ {A = List X} (x ∷ (take from xs ++ h.0)) [] = h.1 in absurd cc
front_and_new (suc from) (suc up) (x ∷ xs) h =
    let both : x ∷ (take from xs ++ h.0) ≡ x ∷ take up xs = h.1 in
    let rest : take from xs ++ h.0 ≡ take up xs = cc in
    ap (λ ys. x ∷ ys) (front_and_new from up xs (h.0, rest))

-- ---- the list between others, by its number

seam_get : {X : Type 0} (done : List X) (x : X) (rest : List X) → slice_get (done ++ x ∷ rest) (length done) ≡ Some x
seam_get [] x rest = refl
seam_get (d ∷ done) x rest = seam_get done x rest

seam_set : {X : Type 0} (done : List X) (x y : X) (rest : List X) → slice_set (done ++ x ∷ rest) (length done) y ≡ done ++ y ∷ rest
seam_set [] x y rest = refl
seam_set (d ∷ done) x y rest = ap (λ xs. d ∷ xs) (seam_set done x y rest)

module _ (done rest : Seen) (f : ℕ) (number : f ≡ suc (length done)) where
  found : (list : List ClaimedStructure) → numbered (done ++ list ∷ rest) f ≡ Some list
  found list = ap (numbered (done ++ list ∷ rest)) number ∙ numbered-suc (done ++ list ∷ rest) (length done) ∙ seam_get done list rest

  changed : (list now : List ClaimedStructure) → with_element (done ++ list ∷ rest) f now ≡ done ++ now ∷ rest
  changed list now =
      let place : f - 1 ≡ length done = omega (arith, number) in
      ap (λ (k : ℕ). slice_set (done ++ list ∷ rest) k now) place ∙ seam_set done list now rest

-- ---- looks

-- before the first row nothing was published, nor seen
nothing_yet : (lists : Seen) → prefixes (at_first_row lists) lists ≡ replicate (length lists) []
nothing_yet [] = refl
nothing_yet (list ∷ lists) = ap (λ (look : Seen). [] ∷ look) (nothing_yet lists)

empties_are : (lists : Seen) → map (λ (versions : List ClaimedStructure). []) lists ≡ prefixes (at_first_row lists) lists
empties_are [] = refl
empties_are (list ∷ lists) = ap (λ (look : Seen). [] ∷ look) (empties_are lists)

-- nothing begins each look
first_front : (ns : List ℕ) (lists : Seen) → length ns ≡ length lists → AllZip IsPrefixOf (prefixes (at_first_row lists) lists) (prefixes ns lists)
first_front [] [] e = tt
first_front [] (list ∷ lists) e = absurd (omega (arith, e))
first_front (n ∷ ns) [] e = absurd (omega (arith, e))
first_front (n ∷ ns) (list ∷ lists) e = ((take n list, refl), first_front ns lists (omega (arith, e)))

-- each look begins the lists
last_front : (ns : List ℕ) (lists : Seen) → length ns ≡ length lists → AllZip IsPrefixOf (prefixes ns lists) lists
last_front [] [] e = tt
last_front [] (list ∷ lists) e = absurd (omega (arith, e))
last_front (n ∷ ns) [] e = absurd (omega (arith, e))
last_front (n ∷ ns) (list ∷ lists) e = (front_of n list, last_front ns lists (omega (arith, e)))

abbrev IsAsMany : Seen → GivenRow → Type 0
IsAsMany lists row = length row.lengths ≡ length lists

-- the last row too tells a length for each list
last_many : (before : List ℕ) (rows : List GivenRow) (lists : Seen) → length before ≡ length lists → AllByRecursion (IsAsMany lists) rows → length (last_lengths before rows) ≡ length lists
last_many before [] lists e h = e
last_many before (row ∷ rows) lists e h = last_many row.lengths rows lists h.0 h.1

-- each row tells no less than the row before it
abbrev Rises : List ℕ → List GivenRow → Seen → Type 0
Rises before [] lists = Unit {0}
Rises before (row ∷ rows) lists = AllZip IsPrefixOf (prefixes before lists) (prefixes row.lengths lists) × Rises row.lengths rows lists

rises_on : (before : List ℕ) (rows : List GivenRow) (lists : Seen) → Grow (prefixes before lists ∷ looks_after (prefixes before lists) rows lists) → Rises before rows lists
rises_on before [] lists h = tt
rises_on before (row ∷ rows) lists h = (
  h 0 1 [] (omega arith) (omega arith),
  rises_on row.lengths rows lists (λ i j d less within. h (suc i) (suc j) d (omega (arith, less)) (omega (arith, within))),
)

rises : (rows : List GivenRow) (lists : Seen) → AllByRecursion (IsAsMany lists) rows → Grow (looks_of rows lists) → Rises (at_first_row lists) rows lists
rises [] lists many h = tt
rises (row ∷ rows) lists many h = (first_front row.lengths lists many.0, rises_on row.lengths rows lists h)

-- ---- runs

some_or_none : (o : Option Outcome) → (¬ IsSome o) → o ≡ None
some_or_none None h = refl
some_or_none (Some x) h = absurd (h refl)

not_ended : (o : Outcome) (run : Run) → run.ended ≡ Some o → run.ended ≡ None → {B : Type 0} → B
not_ended o run some none {B} = let never : ◌≡◌ {A = Option Outcome} (Some o) None = sym some ∙ none in absurd cc

module _ (problem : Stated) where
  one_row : (old : Run) (look : Seen) (new : Run) → Infer problem (length old.given + 1) old look new → length new.given ≡ length old.given + 1
  one_row old look new i = ap (λ (run : Run). length run.given) i.goes_to ∙ length-append old.given _

  -- after a turn that doesn't end the run there is one row more
  turns_count : (old : Run) (look : Seen) (new : Run) → Turns problem old look new → new.ended ≡ None → length new.given ≡ length old.given + 1
  turns_count old look new (inl k) none = not_ended outcome.SosEmpty new (ap (λ (run : Run). run.ended) k.1) none
  turns_count old look new (inr (some, inl k)) none = not_ended (outcome.GivenLimit (length old.given)) new (ap (λ (run : Run). run.ended) k.1) none
  turns_count old look new (inr (some, inr (below, inl k))) none = not_ended (outcome.KeptLimit (length old.book.kept)) new (ap (λ (run : Run). run.ended) k.1) none
  turns_count old look new (inr (some, inr (below, inr (fewer, i)))) none = one_row old look new i

  -- where it goes on after a look it has one row more
  goes_count : (old : Run) (look : Seen) (new : Run) → Goes problem old look new → new.ended ≡ None → (old.ended ≡ None) × (length new.given ≡ length old.given + 1)
  goes_count old look new (inl k) none =
      let never : ◌≡◌ {A = Bool} false true = subst IsSome (sym (ap (λ (run : Run). run.ended) k.1) ∙ none) k.0 in
      absurd cc
  goes_count old look new (inr k) none = (some_or_none old.ended k.0, turns_count old look new k.1 none)

  -- the outcome is one that a turn with a row may have
  abbrev IsOfRow : Outcome → Type 0
  IsOfRow o = (o ≢ outcome.SosEmpty) × ((n : ℕ) → o ≢ outcome.GivenLimit n) × ((n : ℕ) → o ≢ outcome.KeptLimit n)

  other : (o p : Outcome) (new : Run) → o ≢ p → new.ended ≡ Some o → new.ended ≡ Some p → {B : Type 0} → B
  other o p new differ so such {B} = let both : Some o ≡ Some p = sym so ∙ such in let same : o ≡ p = cc in absurd (differ same)

  -- where the last look adds no row, and the outcome is such a one, the run had ended before that look
  stays : (o : Outcome) (mid : Run) (look : Seen) (new : Run) → IsOfRow o → new.ended ≡ Some o → (mid.ended ≡ None → length mid.given ≡ length new.given) → Goes problem mid look new → new ≡ mid
  stays o mid look new differs so no_row (inl k) = k.1
  stays o mid look new differs so no_row (inr (going, inl k)) = other o outcome.SosEmpty new differs.0 so (ap (λ (run : Run). run.ended) k.1)
  stays o mid look new differs so no_row (inr (going, inr (some, inl k))) = other o (outcome.GivenLimit (length mid.given)) new (differs.1 _) so (ap (λ (run : Run). run.ended) k.1)
  stays o mid look new differs so no_row (inr (going, inr (some, inr (below, inl k)))) = other o (outcome.KeptLimit (length mid.book.kept)) new (differs.2 _) so (ap (λ (run : Run). run.ended) k.1)
  stays o mid look new differs so no_row (inr (going, inr (some, inr (below, inr (fewer, i))))) =
      let more = one_row mid look new i in
      let same = no_row (some_or_none mid.ended going) in
      absurd (omega (arith, more, same))

  -- ---- events

  abbrev state : Seen → Seen → Run → Machine
  state published seen run = record { published = published; seen = seen; run = run }

  happen_join : (es fs : List Event) (a b c : Machine) → HappenAll problem a es b → HappenAll problem b fs c → HappenAll problem a (es ++ fs) c
  happen_join [] fs a b c h k = subst (λ (m : Machine). HappenAll problem m fs c) h k
  happen_join (e ∷ es) fs a b c h k = (h.0, h.1, happen_join es fs h.0 b c h.2 k)

  -- a finder publishes these versions
  published_all : (done rest : Seen) (f : ℕ) → f ≡ suc (length done) → (seen : Seen) (run : Run) (list vs : List ClaimedStructure)
      → HappenAll problem (state (done ++ list ∷ rest) seen run) (map (Publish f) vs) (state (done ++ (list ++ vs) ∷ rest) seen run)
  published_all done rest f e seen run list [] = ap (λ (now : List ClaimedStructure). state (done ++ now ∷ rest) seen run) (append-nil list)
  published_all done rest f e seen run list (v ∷ vs) = (
    state (done ++ (list ++ v ∷ []) ∷ rest) seen run,
    some_is _ (numbered (done ++ list ∷ rest) f) list (found done rest f e list) (ap (λ (lists : Seen). state lists seen run) (sym (changed done rest f e list (list ++ v ∷ [])))),
    subst (λ (now : List ClaimedStructure). HappenAll problem (state (done ++ (list ++ v ∷ []) ∷ rest) seen run) (map (Publish f) vs) (state (done ++ now ∷ rest) seen run))
        (append_assoc list (v ∷ []) vs) (published_all done rest f e seen run (list ++ v ∷ []) vs),
  )

  -- the prover looks at a finder's list
  looked : (done rest : Seen) (f : ℕ) → f ≡ suc (length done) → (run : Run) (before now : List ClaimedStructure)
      → Happens problem (state (done ++ now ∷ rest) (done ++ before ∷ rest) run) (Look f) (state (done ++ now ∷ rest) (done ++ now ∷ rest) run)
  looked done rest f e run before now =
      some_is _ (numbered (done ++ now ∷ rest) f) now (found done rest f e now) (ap (λ (lists : Seen). state (done ++ now ∷ rest) lists run) (sym (changed done rest f e before now)))

  -- the machine in which all of a look was published and is seen
  abbrev shown : Seen → Run → Machine
  shown look run = state look look run

  -- a finder publishes from the one place up to the other and is looked at, and other events follow
  sight_leads : (done rest : Seen) (f : ℕ) → f ≡ suc (length done) → (run : Run) (from up : ℕ) (list : List ClaimedStructure) → IsPrefixOf (take from list) (take up list) → (es : List Event) (m : Machine)
      → HappenAll problem (shown ((done ++ take up list ∷ []) ++ rest) run) es m → HappenAll problem (shown (done ++ take from list ∷ rest) run) (map (Publish f) (drop from (take up list)) ++ Look f ∷ es) m
  sight_leads done rest f e run from up list h es m follow =
      happen_join (map (Publish f) (drop from (take up list))) (Look f ∷ es) (shown before run) (state now before run) m
      (subst (λ (list_now : List ClaimedStructure). HappenAll problem (shown before run) (map (Publish f) (drop from (take up list))) (state (done ++ list_now ∷ rest) before run))
      (front_and_new from up list h) (published_all done rest f e before run (take from list) (drop from (take up list))))
      (shown now run, looked done rest f e run (take from list) (take up list), subst (λ (all : Seen). HappenAll problem (shown all run) es m) (append_assoc done (take up list ∷ []) rest) follow)
    where
      before : Seen
      before = done ++ take from list ∷ rest

      now : Seen
      now = done ++ take up list ∷ rest

  -- behind the finders that are done, each publishes and is looked at
  sights_lead : (done : Seen) (f : ℕ) → f ≡ suc (length done) → (run : Run) (froms ups : List ℕ) (lists : Seen) → AllZip IsPrefixOf (prefixes froms lists) (prefixes ups lists)
      → HappenAll problem (shown (done ++ prefixes froms lists) run) (sights f froms ups lists) (shown (done ++ prefixes ups lists) run)
  sights_lead done f e run [] [] lists h = refl
  sights_lead done f e run [] (up ∷ ups) [] h = refl
  sights_lead done f e run [] (up ∷ ups) (list ∷ lists) h = absurd h
  sights_lead done f e run (from ∷ froms) [] [] h = refl
  sights_lead done f e run (from ∷ froms) [] (list ∷ lists) h = absurd h
  sights_lead done f e run (from ∷ froms) (up ∷ ups) [] h = refl
  sights_lead done f e run (from ∷ froms) (up ∷ ups) (list ∷ lists) h =
      let more = length-append done (take up list ∷ []) in
      subst (λ (look : Seen). HappenAll problem (shown (done ++ take from list ∷ prefixes froms lists) run) (sights f (from ∷ froms) (up ∷ ups) (list ∷ lists)) (shown look run))
      (append_assoc done (take up list ∷ []) (prefixes ups lists))
      (sight_leads done (prefixes froms lists) f e run from up list h.0 (sights (suc f) froms ups lists) (shown ((done ++ take up list ∷ []) ++ prefixes ups lists) run)
      (sights_lead (done ++ take up list ∷ []) (suc f) (omega (arith, e, more)) run froms ups lists h.1))

  -- The events of the rows lead to a run that goes on by the last look to the new one. While it hasn't ended it has a row
  -- for each look.
  record Comes (before : List ℕ) (rows : List GivenRow) (lists : Seen) (old new : Run) : Type 0 where
    mid : Run
    over : HappenAll problem (shown (prefixes before lists) old) (turns_told before rows lists) (shown (prefixes (last_lengths before rows) lists) mid)
    last : Goes problem mid (prefixes (last_lengths before rows) lists) new
    many : mid.ended ≡ None → (old.ended ≡ None) × (length mid.given ≡ length old.given + length rows)

  turns_lead : (before : List ℕ) (rows : List GivenRow) (lists : Seen) (old new : Run) → Rises before rows lists → GoesOver problem old (looks_after (prefixes before lists) rows lists) new
      → Comes before rows lists old new
  turns_lead before [] lists old new h g = record {
    mid = old;
    over = refl;
    last = subst (Goes problem old (prefixes before lists)) (sym g.2) g.1;
    many = λ none. (none, omega arith);
  }
  turns_lead before (row ∷ rows) lists old new h g =
      let rest = turns_lead row.lengths rows lists g.0 new h.1 g.2 in
      record {
        mid = rest.mid;
        over = happen_join (sights 1 before row.lengths lists) (Turn ∷ turns_told row.lengths rows lists)
            (shown (prefixes before lists) old) (shown (prefixes row.lengths lists) old) (shown (prefixes (last_lengths row.lengths rows) lists) rest.mid)
            (sights_lead [] 1 refl old before row.lengths lists h.0) (shown (prefixes row.lengths lists) g.0, (g.0, g.1, refl), rest.over);
        last = rest.last;
        many = λ none.
            let after = rest.many none in
            let first = goes_count old (prefixes row.lengths lists) g.0 g.1 after.0 in
            let one = first.1 in
            let more = after.1 in
            (first.0, omega (arith, one, more));
      }

  -- the last look, and the turn that it may be
  end_lead : (o : Outcome) (look : Seen) (mid new : Run) → new.ended ≡ Some o → (mid.ended ≡ None → length mid.given ≡ length new.given) → Goes problem mid look new
      → HappenAll problem (shown look mid) (ending_turn o) (shown look new)
  end_lead outcome.Proof look mid new so no_row goes = ap (shown look) (stays outcome.Proof mid look new ((λ e. cc), (λ n e. cc), (λ n e. cc)) so no_row goes)
  end_lead (outcome.WorkLimit t) look mid new so no_row goes = ap (shown look) (stays (outcome.WorkLimit t) mid look new ((λ e. cc), (λ n e. cc), (λ n e. cc)) so no_row goes)
  end_lead outcome.SosEmpty look mid new so no_row goes = (shown look new, (new, goes, refl), refl)
  end_lead (outcome.GivenLimit n) look mid new so no_row goes = (shown look new, (new, goes, refl), refl)
  end_lead (outcome.KeptLimit n) look mid new so no_row goes = (shown look new, (new, goes, refl), refl)

  module _ (versions : Seen) (text : RunValue) (h : Tells problem versions text) where
    abbrev start : Run
    start = started h.is_run.book h.is_run.goal

    abbrev first_lengths : List ℕ
    first_lengths = at_first_row versions

    abbrev end_lengths : List ℕ
    end_lengths = last_lengths (at_first_row versions) text.given

    abbrev whole_lengths : List ℕ
    whole_lengths = map (λ (list : List ClaimedStructure). length list) versions

    abbrev first_look : Seen
    first_look = prefixes (at_first_row versions) versions

    abbrev end_look : Seen
    end_look = prefixes (last_lengths (at_first_row versions) text.given) versions

    -- the rows, from the start
    come : Comes first_lengths text.given versions start h.run
    come = turns_lead first_lengths text.given versions start h.run (rises text.given versions h.lengths h.grow)
        (subst (λ (look : Seen). GoesOver problem start (looks_after look text.given versions) h.run) (empties_are versions) h.is_run.goes)

    no_row_more : come.mid.ended ≡ None → length come.mid.given ≡ length h.run.given
    no_row_more none = let count = (come.many none).1 in let all = ap (λ (rows : List GivenRow). length rows) h.given in omega (arith, count, all)

    -- at the end the rest is published and seen
    rest_leads : HappenAll problem (shown end_look h.run) (sights 1 end_lengths whole_lengths versions) (shown versions h.run)
    rest_leads =
        subst (λ (look : Seen). HappenAll problem (shown end_look h.run) (sights 1 end_lengths whole_lengths versions) (shown look h.run)) (whole_look versions)
        (sights_lead [] 1 refl h.run end_lengths whole_lengths versions
        (subst (AllZip IsPrefixOf end_look) (sym (whole_look versions))
        (last_front end_lengths versions (last_many first_lengths text.given versions (length-replicate (length versions) 0) h.lengths))))

    all_lead : HappenAll problem (shown first_look start) (events_told text versions) (shown versions h.run)
    all_lead =
        happen_join (turns_told first_lengths text.given versions ++ ending_turn text.outcome) (sights 1 end_lengths whole_lengths versions)
        (shown first_look start) (shown end_look h.run) (shown versions h.run)
        (happen_join (turns_told first_lengths text.given versions) (ending_turn text.outcome) (shown first_look start) (shown end_look come.mid) (shown end_look h.run)
        come.over (end_lead text.outcome end_look come.mid h.run h.outcome no_row_more come.last))
        rest_leads

    told_after : IsAfter problem (length versions) (events_told text versions) (shown versions h.run)
    told_after = (
      shown (replicate (length versions) []) start,
      (h.is_run.book, h.is_run.goal, h.is_run.starts, refl),
      subst (λ (look : Seen). HappenAll problem (shown look start) (events_told text versions) (shown versions h.run)) (nothing_yet versions) all_lead,
    )

pub text_is_of_events : TextIsOfEvents
text_is_of_events problem versions text such h = record { run = h.run; after = told_after problem versions text h; given = h.given; kept = h.kept; outcome = h.outcome }
