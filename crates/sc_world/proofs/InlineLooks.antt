-- The looks of a run whose every turn sees all that a finder's answers published before it.
use Rattle.std.proofs.Common.{◌≡◌, ◌∙◌, sym, ap, subst, refl, ℕ, zero, suc, ◌+◌, ◌-◌, ◌≤◌, inl, inr, List, [], ◌∷◌, ◌++◌, length, map, take, drop, Option, arith, take-take, take-append-drop}
use Rattle.std.specs.Prelude.{IsSome}
use Rattle.std.specs.List.{AllByRecursion}
use Rattle.std.proofs.lemmas.List.{length-append}
use Rattle.std.proofs.lemmas.List.Elements.{filter_map-append}
use Rattle.std.proofs.Math.Seq.{take-append_seam}
use Rattle.sc_input_rules.specs.Problem.{Stated}
use Rattle.sc_interp.specs.Versions.{ClaimedStructure}
use Rattle.sc_core_rules.specs.declared.row.GivenRow.{GivenRow}
use Rattle.sc_core_rules.specs.declared.row.Outcome.{Outcome}
use Rattle.sc_core_rules.specs.declared.row.Outcome.TheVariants.{SosEmpty, GivenLimit, KeptLimit}
use Rattle.sc_core_rules.specs.Selection.{Seen}
use Rattle.sc_core_rules.specs.Turn.{Run, Infer, Turns, with_end}
use Rattle.sc_core_rules.specs.Run.{Goes, GoesOver, started, IsRun, prefixes, looks_after}
use Rattle.sc_core_rules.proofs.SoundProcessing.{where_either}
use Rattle.sc_worker.specs.FinderList.{versions_of}
use Rattle.sc_world.specs.Recorded.{SeesAll}

abbrev pub Answered : Type 0
Answered = List (Option ClaimedStructure)

-- ---- rows are those of one turn after another

-- the rows are those of the turns that follow turn n
abbrev pub AreTurnsFrom : ℕ → List GivenRow → Type 0
AreTurnsFrom n [] = Unit {0}
AreTurnsFrom n (row ∷ rows) = (row.turn ≡ n + 1) × AreTurnsFrom (n + 1) rows

turn_behind : (n : ℕ) (rows : List GivenRow) (row : GivenRow) → AreTurnsFrom n rows → row.turn ≡ n + length rows + 1 → AreTurnsFrom n (rows ++ row ∷ [])
turn_behind n [] row h e = (omega (arith, e), tt)
turn_behind n (first ∷ rows) row h e = (h.0, turn_behind (n + 1) rows row h.1 (omega (arith, e)))

module _ (problem : Stated) where
  abbrev row_of : (turn : ℕ) (old : Run) (look : Seen) (new : Run) → Infer problem turn old look new → GivenRow
  row_of turn old look new i =
      record { turn = turn; number = i.given.number; cause = i.cause; name = i.name; truth = i.truth; lengths = map (λ (vs : List ClaimedStructure). length vs) look }

  infer_counted : (old : Run) (look : Seen) (new : Run) → AreTurnsFrom 0 old.given → Infer problem (length old.given + 1) old look new → AreTurnsFrom 0 new.given
  infer_counted old look new h i =
      let at : length old.given + 1 ≡ 0 + length old.given + 1 = omega arith in
      subst (λ (run : Run). AreTurnsFrom 0 run.given) (sym i.goes_to) (turn_behind 0 old.given (row_of (length old.given + 1) old look new i) h at)

  turns_counted : (old : Run) (look : Seen) (new : Run) → AreTurnsFrom 0 old.given → Turns problem old look new → AreTurnsFrom 0 new.given
  turns_counted old look new h =
      where_either (λ e. subst (λ (run : Run). AreTurnsFrom 0 run.given) (sym e) h)
      (where_either (λ e. subst (λ (run : Run). AreTurnsFrom 0 run.given) (sym e) h)
      (where_either (λ e. subst (λ (run : Run). AreTurnsFrom 0 run.given) (sym e) h)
      (infer_counted old look new h)))

  goes_counted : (looks : List Seen) (old new : Run) → AreTurnsFrom 0 old.given → GoesOver problem old looks new → AreTurnsFrom 0 new.given
  goes_counted [] old new h k = subst (λ (run : Run). AreTurnsFrom 0 run.given) (sym k) h
  goes_counted (look ∷ looks) old new h k =
      let mid : AreTurnsFrom 0 (k.0).given = where_either (λ e. subst (λ (run : Run). AreTurnsFrom 0 run.given) (sym e) h) (turns_counted old look k.0 h) k.1 in
      goes_counted looks k.0 new mid k.2

  -- the rows of a run are those of turns 1, 2, ..
  pub run_counted : (looks : List Seen) (run : Run) → IsRun problem looks run → AreTurnsFrom 0 run.given
  run_counted looks run h = goes_counted looks (started h.book h.goal) run tt h.goes

  -- ---- a run over looks, and then over others

  parted : (looks more : List Seen) (old new : Run) → GoesOver problem old (looks ++ more) new → (mid : Run) × GoesOver problem old looks mid × GoesOver problem mid more new
  parted [] more old new h = (old, refl, h)
  parted (look ∷ looks) more old new h = let rest = parted looks more h.0 new h.2 in (rest.0, (h.0, h.1, rest.1), rest.2)

  joined : (looks more : List Seen) (old mid new : Run) → GoesOver problem old looks mid → GoesOver problem mid more new → GoesOver problem old (looks ++ more) new
  joined [] more old mid new h k = subst (λ (run : Run). GoesOver problem run more new) h k
  joined (look ∷ looks) more old mid new h k = (h.0, h.1, joined looks more h.0 mid new h.2 k)

  -- a run that has ended stays
  stays : (looks : List Seen) (run : Run) → IsSome run.ended → GoesOver problem run looks run
  stays [] run some = refl
  stays (look ∷ looks) run some = (run, inl (some, refl), stays looks run some)

  -- ---- a run that goes on has a row for each look

  is_ended : (old new : Run) (o : Outcome) → new ≡ with_end old o → IsSome new.ended
  is_ended old new o e = subst (λ (run : Run). IsSome run.ended) (sym e) refl

  row_more : (old : Run) (look : Seen) (new : Run) → Infer problem (length old.given + 1) old look new → length new.given ≡ length old.given + 1
  row_more old look new i =
      ap (λ (run : Run). length run.given) i.goes_to ∙ length-append old.given (row_of (length old.given + 1) old look new i ∷ [])

  turn_going : (old : Run) (look : Seen) (new : Run) → ¬ IsSome new.ended → Turns problem old look new → length new.given ≡ length old.given + 1
  turn_going old look new going (inl h) = absurd (going (is_ended old new SosEmpty h.1))
  turn_going old look new going (inr (some, inl h)) = absurd (going (is_ended old new (GivenLimit (length old.given)) h.1))
  turn_going old look new going (inr (some, inr (below, inl h))) = absurd (going (is_ended old new (KeptLimit (length old.book.kept)) h.1))
  turn_going old look new going (inr (some, inr (below, inr (fewer, i)))) = row_more old look new i

  goes_going : (looks : List Seen) (look : Seen) (old mid : Run) (n : ℕ) → ¬ IsSome mid.ended → n ≡ length mid.given + length looks → Goes problem old look mid
      → (¬ IsSome old.ended) × (n ≡ length old.given + length (look ∷ looks))
  goes_going looks look old mid n going e (inl (some, same)) = absurd (going (subst (λ (run : Run). IsSome run.ended) (sym same) some))
  goes_going looks look old mid n going e (inr (none, turn)) = (none, let f = turn_going old look mid going turn in omega (arith, e, f))

  rows_going : (looks : List Seen) (old new : Run) → ¬ IsSome new.ended → GoesOver problem old looks new → (¬ IsSome old.ended) × (length new.given ≡ length old.given + length looks)
  rows_going [] old new going h = (
    λ some. going (subst (λ (run : Run). IsSome run.ended) (sym h) some),
    let e = ap (λ (run : Run). length run.given) h in omega (arith, e),
  )
  rows_going (look ∷ looks) old new going h =
      let rest = rows_going looks h.0 new going h.2 in
      goes_going looks look old h.0 (length new.given) rest.0 rest.1 h.1

  -- ---- the look of a turn that writes no row doesn't matter

  free_turn : (old : Run) (x y : Seen) (new : Run) → length new.given ≡ length old.given → Turns problem old x new → Turns problem old y new
  free_turn old x y new e (inl h) = inl h
  free_turn old x y new e (inr (some, inl h)) = inr (some, inl h)
  free_turn old x y new e (inr (some, inr (below, inl h))) = inr (some, inr (below, inl h))
  free_turn old x y new e (inr (some, inr (below, inr (fewer, i)))) = let more = row_more old x new i in absurd (omega (arith, e, more))

  free_goes : (looks : List Seen) (x y : Seen) (old mid new : Run) → length new.given ≡ length old.given + length looks → GoesOver problem old looks mid → Goes problem mid x new → Goes problem mid y new
  free_goes looks x y old mid new e h (inl ended) = inl ended
  free_goes looks x y old mid new e h (inr (none, turn)) =
      let rows = (rows_going looks old mid none h).1 in
      inr (none, free_turn mid x y new (omega (arith, e, rows)) turn)

  -- A run that has ended with as many rows as there are looks but the last is a run over any other looks instead of that
  pub free_run : (looks : List Seen) (x y : Seen) (more : List Seen) (run : Run) → IsSome run.ended → length run.given ≡ length looks → IsRun problem (looks ++ x ∷ []) run
      → IsRun problem (looks ++ y ∷ more) run
  free_run looks x y more run some e h =
      let start : Run = started h.book h.goal in
      let parts = parted looks (x ∷ []) start run h.goes in
      let count : length run.given ≡ 0 + length looks = omega (arith, e) in
      let last : Goes problem parts.0 x run = subst (λ (r : Run). Goes problem parts.0 x r) (sym parts.2.2) parts.2.1 in
      record {
        book = h.book;
        goal = h.goal;
        starts = h.starts;
        goes = joined looks (y ∷ more) start parts.0 run parts.1 (run, free_goes looks x y start parts.0 run count parts.1 last, stays more run some);
      }

-- ---- looks at what was answered

-- all that was published for the first n answers
abbrev pub look_at : Answered → ℕ → Seen
look_at answers n = versions_of (take n answers) ∷ []

-- m looks, the first of them at what was published for n answers, and each at one answer more
abbrev pub looks_from : Answered → ℕ → ℕ → List Seen
looks_from answers n zero = []
looks_from answers n (suc m) = look_at answers n ∷ looks_from answers (n + 1) m

pub count_looks : (answers : Answered) (n m : ℕ) → length (looks_from answers n m) ≡ m
count_looks answers n zero = refl
count_looks answers n (suc m) = ap (λ (l : ℕ). suc l) (count_looks answers (n + 1) m)

-- looks, and then more of them
pub looks_on : (answers : Answered) (k n m : ℕ) → looks_from answers k (n + m) ≡ looks_from answers k n ++ looks_from answers (k + n) m
looks_on answers k zero m =
    let none : 0 + m ≡ m = omega arith in
    let at : k ≡ k + 0 = omega arith in
    ap (λ (l : ℕ). looks_from answers k l) none ∙ ap (λ (l : ℕ). looks_from answers l m) at
looks_on answers k (suc n) m =
    let one : suc n + m ≡ suc (n + m) = omega arith in
    let at : k + 1 + n ≡ k + suc n = omega arith in
    ap (λ (l : ℕ). looks_from answers k l) one
    ∙ ap (λ (looks : List Seen). look_at answers k ∷ looks) (looks_on answers (k + 1) n m ∙ ap (λ (l : ℕ). looks_from answers (k + 1) n ++ looks_from answers l m) at)

-- looks that don't reach beyond one after the first c answers are looks at those
pub looks_at_first : (answers : Answered) (c n m : ℕ) → n + m ≤ c + 1 → looks_from (take c answers) n m ≡ looks_from answers n m
looks_at_first answers c n zero le = refl
looks_at_first answers c n (suc m) le =
    let below : n ≤ c = omega (arith, le) in
    let within : n + 1 + m ≤ c + 1 = omega (arith, le) in
    let first : look_at (take c answers) n ≡ look_at answers n = ap (λ (l : Answered). versions_of l ∷ []) (take-take n c answers below) in
    let rest : looks_from (take c answers) (n + 1) m ≡ looks_from answers (n + 1) m = looks_at_first answers c (n + 1) m within in
    λ j. first j ∷ rest j

-- ---- the looks that the rows tell

-- as many versions as the first answers have are those of the first answers
first_versions : (answers : Answered) (n : ℕ) → take (length (versions_of (take n answers))) (versions_of answers) ≡ versions_of (take n answers)
first_versions answers n =
    let whole : versions_of answers ≡ versions_of (take n answers) ++ versions_of (drop n answers) =
    ap versions_of (sym (take-append-drop n answers)) ∙ filter_map-append (λ (answer : Option ClaimedStructure). answer) (take n answers) (drop n answers) in
    ap (λ (list : List ClaimedStructure). take (length (versions_of (take n answers))) list) whole ∙ take-append_seam (versions_of (take n answers)) (versions_of (drop n answers))

sees_first : (answers : Answered) (n : ℕ) (row : GivenRow) → row.turn ≡ n + 1 → SeesAll answers row → prefixes row.lengths (versions_of answers ∷ []) ≡ look_at answers n
sees_first answers n row turn h =
    let at : row.turn - 1 ≡ n = omega (arith, turn) in
    ap (λ (lengths : List ℕ). prefixes lengths (versions_of answers ∷ [])) h
    ∙ ap (λ (list : List ClaimedStructure). list ∷ []) (first_versions answers (row.turn - 1))
    ∙ ap (λ (m : ℕ). look_at answers m) at

pub rows_see : (answers : Answered) (n : ℕ) (last : Seen) (rows : List GivenRow) → AreTurnsFrom n rows → AllByRecursion (SeesAll answers) rows
    → (end : Seen) × (looks_after last rows (versions_of answers ∷ []) ≡ looks_from answers n (length rows) ++ end ∷ [])
rows_see answers n last [] h k = (last, refl)
rows_see answers n last (row ∷ rows) h k =
    let seen : Seen = prefixes row.lengths (versions_of answers ∷ []) in
    let first : seen ≡ look_at answers n = sees_first answers n row h.0 k.0 in
    let rest = rows_see answers (n + 1) seen rows h.1 k.1 in
    (rest.0, λ j. first j ∷ rest.1 j)
