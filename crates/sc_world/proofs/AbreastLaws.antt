-- What a look at every shelf and a turn do to the looks, and when the prover sees what its windows have seen.
use Rattle.std.proofs.Common.{◌≡◌, ◌≢◌, ◌∙◌, sym, ap, subst, refl, ℕ, zero, suc, ◌+◌, ◌-◌, ◌<◌, ◌≤◌, ◌==◌, inl, inr, List, [], ◌∷◌, ◌++◌, length, length-append, map, take, get_or, set, Option, Some, None, true, false, replicate, arith}
use Rattle.std.specs.Prelude.{◌^◌, All, Result, Ok, Err, OnOk, slice_get}
use Rattle.std.specs.List.{AllZip}
use Rattle.std.proofs.lemmas.List.{get_or-set_same, get_or-set_other, take_all}
use Rattle.std.proofs.lemmas.Option.{slice_get-get_or}
use Rattle.std.proofs.lemmas.List.Elements.{length_all_zip, All-head, All-tail}
use Rattle.std.proofs.lemmas.Grind.{common_steps}
use Rattle.sc_term.specs.Numbering.{numbered}
use Rattle.sc_input_rules.specs.Problem.{Stated}
use Rattle.sc_interp.specs.Versions.{ClaimedStructure}
use Rattle.sc_shelf.specs.Entries.{StartsWith}
use Rattle.sc_shelf.specs.State.{WindowState}
use Rattle.sc_core_rules.specs.declared.row.GivenRow.{GivenRow}
use Rattle.sc_core_rules.specs.declared.row.Outcome.{Outcome}
use Rattle.sc_core_rules.specs.declared.row.Outcome.TheVariants as outcome
use Rattle.sc_core_rules.specs.Selection.{Seen}
use Rattle.sc_core_rules.specs.WorkList.{Finish, Done, Found, TooMany}
use Rattle.sc_core_rules.specs.Turn.{Run, Turns, Infer, outcome_of, with_end}
use Rattle.sc_core.specs.State.{ProverState}
use Rattle.sc_world.specs.Beside.{column, AreLooksOfTurns}
use Rattle.sc_world.specs.Underway.{turns_left}
use Rattle.sc_world.specs.Abreast.{IsLook, seen_of, AreLooksSoFar, HaveLooked, IsAbreast, IsTurnBeside, CaughtUp, IsCatchingUp}
use Rattle.sc_world.specs.World.{SeesUpTo}
use Rattle.sc_world.proofs.WorldSight.{numbered_at}
use Rattle.sc_world.proofs.Stepping.{zip_at, at_default}

-- ---- what the windows have seen

pub length_seen : (ws : List WindowState) → length (seen_of ws) ≡ length ws
length_seen [] = refl
length_seen (w ∷ ws) = ap (λ n. suc n) (length_seen ws)

pub seen_at : (ws : List WindowState) (k : ℕ) (d : WindowState) → k < length ws → get_or (seen_of ws) k [] ≡ (get_or ws k d).seen
seen_at [] k d low = absurd (omega (arith, low))
seen_at (w ∷ ws) zero d low = refl
seen_at (w ∷ ws) (suc k) d low = seen_at ws k d (omega (arith, low))

pub grown_looked : (ws vs : List WindowState) → AllZip IsLook ws vs → AllZip StartsWith (seen_of vs) (seen_of ws)
grown_looked [] [] z = tt
grown_looked [] (v ∷ vs) z = absurd z
grown_looked (w ∷ ws) [] z = absurd z
grown_looked (w ∷ ws) (v ∷ vs) z = (z.0.grows, grown_looked ws vs z.1)

-- ---- looks

-- how many versions the row has for that window
lengths_at : (ws : List WindowState) (k : ℕ) (d : WindowState) → k < length ws → get_or (map (λ (vs : List ClaimedStructure). length vs) (seen_of ws)) k 0 ≡ length (get_or ws k d).seen
lengths_at [] k d low = absurd (omega (arith, low))
lengths_at (w ∷ ws) zero d low = refl
lengths_at (w ∷ ws) (suc k) d low = lengths_at ws k d (omega (arith, low))

column_more : (f : ℕ) (rows : List GivenRow) (row : GivenRow) → column f (rows ++ row ∷ []) ≡ column f rows ++ get_or row.lengths (f - 1) 0 ∷ []
column_more f [] row = refl
column_more f (q ∷ rows) row = ap (λ l. get_or q.lengths (f - 1) 0 ∷ l) (column_more f rows row)

pub column_long : (f : ℕ) (rows : List GivenRow) → length (column f rows) ≡ length rows
column_long f [] = refl
column_long f (row ∷ rows) = ap (λ n. suc n) (column_long f rows)

module _ (ws vs : List WindowState) (z : AllZip IsLook ws vs) where
  same_many : length vs ≡ length ws
  same_many = sym (length_all_zip IsLook ws vs z)

  looked_at : (k : ℕ) (d : WindowState) → k < length vs → IsLook (get_or ws k d) (get_or vs k d)
  looked_at k d low = let many = same_many in zip_at IsLook ws vs z k d d (omega (arith, many, low))

  looks_more : (rows : List GivenRow) → HaveLooked None rows ws → (k : ℕ) (d : WindowState) → k < length vs → (get_or vs k d).looks ≡ column (k + 1) rows ++ length (get_or vs k d).seen ∷ []
  looks_more rows so k d low =
      let many = same_many in
      (looked_at k d low).looks ∙ ap (λ l. l ++ length (get_or vs k d).seen ∷ []) (so k d (omega (arith, many, low)))

  -- a turn that left a row
  row_more : (rows later : List GivenRow) (row : GivenRow) → HaveLooked None rows ws → row.lengths ≡ map (λ (vs : List ClaimedStructure). length vs) (seen_of vs) → later ≡ rows ++ row ∷ []
      → (k : ℕ) (d : WindowState) → k < length vs → (get_or vs k d).looks ≡ column (k + 1) later
  row_more rows later row so lengths grows k d low =
      let place : k ≡ k + 1 - 1 = omega arith in
      let told : get_or row.lengths (k + 1 - 1) 0 ≡ length (get_or vs k d).seen =
      ap (λ (ns : List ℕ). get_or ns (k + 1 - 1) 0) lengths ∙ ap (λ (i : ℕ). get_or (map (λ (vs : List ClaimedStructure). length vs) (seen_of vs)) i 0) (sym place) ∙ lengths_at vs k d low in
      looks_more rows so k d low ∙ ap (λ (n : ℕ). column (k + 1) rows ++ n ∷ []) (sym told) ∙ sym (column_more (k + 1) rows row) ∙ ap (column (k + 1)) (sym grows)

  same_symbols : (problem : Stated) → All (λ (w : WindowState). w.symbols ≡ problem.symbols) ws → All (λ (w : WindowState). w.symbols ≡ problem.symbols) vs
  same_symbols problem all k d low = let many = same_many in (looked_at k d low).symbols ∙ all k d (omega (arith, many, low))

  pub all_few : All (λ (w : WindowState). length w.seen ≤ 2 ^ 31) vs
  all_few k d low = (looked_at k d low).few

  ended_without_row : (o : Outcome) → ((told looks : List ℕ) (last : ℕ) → looks ≡ told ++ last ∷ [] → AreLooksOfTurns o told looks) → (old : Run) → HaveLooked None old.given ws
      → HaveLooked (with_end old o).ended (with_end old o).given vs
  ended_without_row o is old so k d low = is (column (k + 1) old.given) (get_or vs k d).looks (length (get_or vs k d).seen) (looks_more old.given so k d low)

  by_finish : (turn : ℕ) (finish : Finish) (told looks : List ℕ) → looks ≡ told → AreLooksSoFar (outcome_of turn finish) told looks
  by_finish turn Done told looks e = e
  by_finish turn (Found n) told looks e = e
  by_finish turn TooMany told looks e = e

  given_one : (problem : Stated) (seen : Seen) (old new : Run) → seen ≡ seen_of vs → HaveLooked None old.given ws → (i : Infer problem (length old.given + 1) old seen new) → HaveLooked new.ended new.given vs
  given_one problem seen old new sees so i k d low =
      let rows = ap (λ (run : Run). run.given) i.goes_to in
      let ends = ap (λ (run : Run). run.ended) i.goes_to in
      subst (λ (e : Option Outcome). AreLooksSoFar e (column (k + 1) new.given) (get_or vs k d).looks) (sym ends)
      (by_finish (length old.given + 1) i.finish (column (k + 1) new.given) (get_or vs k d).looks
      (row_more old.given new.given _ so (ap (map (λ (vs : List ClaimedStructure). length vs)) sees) rows k d low))

  pub turned_looks : (problem : Stated) (seen : Seen) (old new : Run) → seen ≡ seen_of vs → HaveLooked None old.given ws → Turns problem old seen new → HaveLooked new.ended new.given vs
  turned_looks problem seen old new sees so (inl k) =
      subst (λ (run : Run). HaveLooked run.ended run.given vs) (sym k.1) (ended_without_row outcome.SosEmpty (λ told looks last e. (last, e)) old so)
  turned_looks problem seen old new sees so (inr (some, inl k)) =
      subst (λ (run : Run). HaveLooked run.ended run.given vs) (sym k.1) (ended_without_row (outcome.GivenLimit (length old.given)) (λ told looks last e. (last, e)) old so)
  turned_looks problem seen old new sees so (inr (some, inr (below, inl k))) =
      subst (λ (run : Run). HaveLooked run.ended run.given vs) (sym k.1) (ended_without_row (outcome.KeptLimit (length old.book.kept)) (λ told looks last e. (last, e)) old so)
  turned_looks problem seen old new sees so (inr (some, inr (below, inr (less, i)))) = given_one problem seen old new sees so i

-- ---- a turn

pub looked_so_far : (o : Option Outcome) (rows : List GivenRow) (ws : List WindowState) → o ≡ None → HaveLooked o rows ws → HaveLooked None rows ws
looked_so_far o rows ws e so = subst (λ (p : Option Outcome). HaveLooked p rows ws) e so

pub turn_abreast : (problem : Stated) (old new : ProverState) (ws vs : List WindowState) → IsAbreast problem old ws → old.run.ended ≡ None → IsTurnBeside old new ws vs → IsAbreast problem new vs
turn_abreast problem old new ws vs h going t = record {
  same = t.same ∙ h.same;
  whole = t.whole;
  sees = t.sees;
  symbols = same_symbols ws vs t.looked problem h.symbols;
  looked = turned_looks ws vs t.looked old.problem new.seen old.run new.run t.sees (looked_so_far old.run.ended old.run.given ws going h.looked) t.turns;
}

-- there is room for one look more
pub room : (rows : List GivenRow) (ws : List WindowState) → HaveLooked None rows ws → length rows ≤ 1000000 → All (λ (w : WindowState). length w.looks < 2 ^ 31) ws
room rows ws so few k d low =
    let e = ap (λ (l : List ℕ). length l) (so k d low) ∙ column_long (k + 1) rows in
    omega (arith, few, e)

one_more_at_most : (o : Outcome) (told looks : List ℕ) → AreLooksOfTurns o told looks → length looks ≤ length told + 1
one_more_at_most outcome.Proof told looks h = let e = ap (λ (l : List ℕ). length l) h in omega (arith, e)
one_more_at_most (outcome.WorkLimit n) told looks h = let e = ap (λ (l : List ℕ). length l) h in omega (arith, e)
one_more_at_most outcome.SosEmpty told looks h = let e = ap (λ (l : List ℕ). length l) h.1 in let more = length-append told (h.0 ∷ []) in omega (arith, e, more)
one_more_at_most (outcome.GivenLimit n) told looks h = let e = ap (λ (l : List ℕ). length l) h.1 in let more = length-append told (h.0 ∷ []) in omega (arith, e, more)
one_more_at_most (outcome.KeptLimit n) told looks h = let e = ap (λ (l : List ℕ). length l) h.1 in let more = length-append told (h.0 ∷ []) in omega (arith, e, more)

-- and after the end for the last one
pub room_at_end : (o : Outcome) (ended : Option Outcome) (rows : List GivenRow) (ws : List WindowState) → ended ≡ Some o → HaveLooked ended rows ws → length rows ≤ 1000000 → All (λ (w : WindowState). length w.looks < 2 ^ 31) ws
room_at_end o ended rows ws is so few k d low =
    let here : AreLooksOfTurns o (column (k + 1) rows) (get_or ws k d).looks = subst (λ (p : Option Outcome). AreLooksSoFar p (column (k + 1) rows) (get_or ws k d).looks) is (so k d low) in
    let most = one_more_at_most o (column (k + 1) rows) (get_or ws k d).looks here in
    let long = column_long (k + 1) rows in
    omega (arith, few, most, long)

-- fewer turns are left
pub fewer_left : (problem : Stated) (seen : Seen) (old new : Run) → old.ended ≡ None → length old.given ≤ problem.params.max_given → Turns problem old seen new
    → turns_left problem.params.max_given new.ended (length new.given) < turns_left problem.params.max_given old.ended (length old.given)
fewer_left problem seen old new going few turns = by turns
  where
    left_at : (o : Option Outcome) → o ≡ None → turns_left problem.params.max_given o (length old.given) ≡ problem.params.max_given + 1 - length old.given
    left_at None e = refl
    left_at (Some o) e = cc

    some_left : 0 < turns_left problem.params.max_given old.ended (length old.given)
    some_left = let e = left_at old.ended going in omega (arith, few, e)

    left_by : (finish : Finish) (n : ℕ) → n ≡ length old.given + 1
        → turns_left problem.params.max_given (outcome_of (length old.given + 1) finish) n < turns_left problem.params.max_given old.ended (length old.given)
    left_by Done n e = let before = left_at old.ended going in omega (arith, few, before, e)
    left_by (Found k) n e = some_left
    left_by TooMany n e = some_left

    by : Turns problem old seen new → turns_left problem.params.max_given new.ended (length new.given) < turns_left problem.params.max_given old.ended (length old.given)
    by (inl k) = subst (λ (run : Run). turns_left problem.params.max_given run.ended (length run.given) < turns_left problem.params.max_given old.ended (length old.given)) (sym k.1) some_left
    by (inr (some, inl k)) = subst (λ (run : Run). turns_left problem.params.max_given run.ended (length run.given) < turns_left problem.params.max_given old.ended (length old.given)) (sym k.1) some_left
    by (inr (some, inr (below, inl k))) = subst (λ (run : Run). turns_left problem.params.max_given run.ended (length run.given) < turns_left problem.params.max_given old.ended (length old.given)) (sym k.1) some_left
    by (inr (some, inr (below, inr (less, i)))) =
        let ends = ap (λ (run : Run). run.ended) i.goes_to in
        let rows = ap (λ (run : Run). run.given) i.goes_to in
        subst (λ (o : Option Outcome). turns_left problem.params.max_given o (length new.given) < turns_left problem.params.max_given old.ended (length old.given)) (sym ends)
        (left_by i.finish (length new.given) (ap (λ (l : List GivenRow). length l) rows ∙ length-append old.given _))

-- ---- the prover's lists

pub caught_first : (xs : Seen) (ws : List WindowState) → CaughtUp xs xs ws 0
caught_first xs ws = record { done = λ k d l. absurd (omega (arith, l)); rest = λ k l. refl; long = refl }

pub catches_at : (first now : Seen) (ws : List WindowState) (i : ℕ) (w : WindowState) → AllZip StartsWith (seen_of ws) first → CaughtUp first now ws i → i < length ws → w ≡ get_or ws i w → StartsWith w.seen (get_or now i [])
catches_at first now ws i w grown up low at =
    let z = zip_at StartsWith (seen_of ws) first grown i [] [] (let long = length_seen ws in omega (arith, long, low)) in
    subst (λ (l : List ClaimedStructure). StartsWith w.seen l) (sym (up.rest i (omega arith)))
    (subst (λ (l : List ClaimedStructure). StartsWith l (get_or first i [])) (seen_at ws i w low ∙ ap (λ (x : WindowState). x.seen) (sym at)) z)

pub caught_more : (first now new : Seen) (ws : List WindowState) (i : ℕ) (w : WindowState) → CaughtUp first now ws i → i < length ws → length first ≡ length ws → w ≡ get_or ws i w → new ≡ set now i w.seen → CaughtUp first new ws (i + 1)
caught_more first now new ws i w up low long at is = record {
  done = λ k d l. elim (k == i) as (λ b. (k == i) ≡ b → get_or new k [] ≡ (get_or ws k d).seen) [
    | true ↦ (λ q. let same : k ≡ i = grind (arith, q) in
        ap (λ l. get_or l k []) is ∙ ap (λ j. get_or (set now i w.seen) j []) same ∙ get_or-set_same now i w.seen [] (let wide = up.long in omega (arith, wide, long, low))
        ∙ ap (λ (x : WindowState). x.seen) at ∙ ap (λ (x : WindowState). x.seen) (at_default ws i w d low) ∙ ap (λ j. (get_or ws j d).seen) (sym same))
    | false ↦ (λ q. let other : k ≢ i = grind (arith, q) in ap (λ l. get_or l k []) is ∙ get_or-set_other now i k w.seen [] other ∙ up.done k d (omega (arith, l, other)))
  ] refl;
  rest = λ k l. let other : k ≢ i = omega (arith, l) in ap (λ l. get_or l k []) is ∙ get_or-set_other now i k w.seen [] other ∙ up.rest k (omega (arith, l));
  long = let e = ap length is in let wide = up.long in grind (arith, common_steps, e, wide);
}

pub caught_all : (now : Seen) (ws : List WindowState) → length now ≡ length ws → ((k : ℕ) (d : WindowState) → k < length ws → get_or now k [] ≡ (get_or ws k d).seen) → now ≡ seen_of ws
caught_all [] [] long each = refl
caught_all [] (w ∷ ws) long each = absurd (omega (arith, long))
caught_all (n ∷ ns) [] long each = absurd (omega (arith, long))
caught_all (n ∷ ns) (w ∷ ws) long each = λ k. each 0 w (omega arith) k ∷ caught_all ns ws (omega (arith, long)) (λ j d low. each (suc j) d (omega (arith, low))) k

pub seen_none : (ws : List WindowState) → All (λ (w : WindowState). w.seen ≡ []) ws → seen_of ws ≡ replicate (length ws) []
seen_none [] all = refl
seen_none (w ∷ ws) all = let head = All-head (λ (w : WindowState). w.seen ≡ []) w ws all in let tail = seen_none ws (All-tail (λ (w : WindowState). w.seen ≡ []) w ws all) in λ k. head k ∷ tail k

-- ---- the prover sees the others of one list

pub first_seen : (seen : Seen) (place from : ℕ) (versions before : List ClaimedStructure) → place < length seen → before ≡ get_or seen place before → from ≡ length before
    → StartsWith versions (get_or seen place []) → numbered seen (place + 1) ≡ Some (take from versions)
first_seen seen place from versions before low at long begins =
    let less : place ≡ place + 1 - 1 = omega arith in
    let here : before ≡ get_or seen place [] = at ∙ at_default seen place before [] low in
    let front : take from versions ≡ before =
    ap (λ (n : ℕ). take n versions) long ∙ subst (λ (l : List ClaimedStructure). take (length l) versions ≡ l) (sym here) begins in
    numbered_at seen (place + 1) (take from versions) (omega arith)
    (subst (λ (k : ℕ). slice_get seen k ≡ Some (take from versions)) less
    (slice_get-get_or seen place before low ∙ ap Some (sym at ∙ sym front)))

begins_short : (xs front : List ClaimedStructure) → StartsWith xs front → length front ≤ length xs
begins_short xs front b = let e = ap length b in grind (arith, common_steps, e)

pub first_within : (seen : Seen) (place from : ℕ) (versions before : List ClaimedStructure) → place < length seen → before ≡ get_or seen place before → from ≡ length before
    → StartsWith versions (get_or seen place []) → from ≤ length versions
first_within seen place from versions before low at long begins =
    let here : before ≡ get_or seen place [] = at ∙ at_default seen place before [] low in
    let less = begins_short versions before (subst (λ (l : List ClaimedStructure). take (length l) versions ≡ l) (sym here) begins) in
    omega (arith, less, long)

pub others_seen : {T E : Type 0} (r : Result T E) (old new : ProverState) (place : ℕ) (versions : List ClaimedStructure) → OnOk r (SeesUpTo (place + 1) versions (length versions) old new)
    → OnOk r (new ≡ record old { seen = set old.seen place versions })
others_seen (Err e) old new place versions h = tt
others_seen (Ok x) old new place versions h =
    let less : place + 1 - 1 ≡ place = omega arith in
    let all : take (length versions) versions ≡ versions = take_all (length versions) versions (omega arith) in
    h ∙ (λ i. record old { seen = set old.seen (less i) (all i) })

-- ---- and of each list

pub catching_first : (prover : ProverState) (ws : List WindowState) → IsCatchingUp prover prover ws 0
catching_first prover ws = record { others = refl; lists = caught_first prover.seen ws }

module _ (first now : ProverState) (ws : List WindowState) (i : ℕ) (grown : AllZip StartsWith (seen_of ws) first.seen) (h : IsCatchingUp first now ws i) where
  pub as_many_lists : length first.seen ≡ length ws
  as_many_lists = let long = length_all_zip StartsWith (seen_of ws) first.seen grown in let e = length_seen ws in omega (arith, long, e)

  pub list_there : i < length ws → i < length now.seen
  list_there low = let many = as_many_lists in let kept = h.lists.long in omega (arith, low, many, kept)

  pub list_begins : (w : WindowState) → i < length ws → w ≡ get_or ws i w → StartsWith w.seen (get_or now.seen i [])
  list_begins w low at = catches_at first.seen now.seen ws i w grown h.lists low at

  pub catching_more : (new : ProverState) (w : WindowState) → i < length ws → w ≡ get_or ws i w → new ≡ record now { seen = set now.seen i w.seen } → IsCatchingUp first new ws (i + 1)
  catching_more new w low at e =
      let seen : new.seen ≡ set now.seen i w.seen = ap (λ (p : ProverState). p.seen) e in record {
        others = e ∙ (λ k. record (h.others k) { seen = set now.seen i w.seen }) ∙ (λ k. record first { seen = sym seen k });
        lists = caught_more first.seen now.seen new.seen ws i w h.lists low as_many_lists at seen;
      }

  pub catching_all : length ws ≤ i → now ≡ record first { seen = seen_of ws }
  catching_all end =
      let many = as_many_lists in
      let kept = h.lists.long in
      let all : now.seen ≡ seen_of ws = caught_all now.seen ws (omega (arith, many, kept)) (λ k d low. h.lists.done k d (omega (arith, low, end))) in
      h.others ∙ (λ k. record first { seen = all k })

-- ---- a look at every shelf, and a turn

pub turned_beside : (old mid new : ProverState) (ws vs : List WindowState) → mid ≡ record old { seen = seen_of vs } → AllZip IsLook ws vs → Turns mid.problem mid.run mid.seen new.run
    → new.problem ≡ mid.problem → new.seen ≡ mid.seen → new.whole ≡ true → IsTurnBeside old new ws vs
turned_beside old mid new ws vs e looked turns problem seen whole = record {
  looked = looked;
  sees = seen ∙ ap (λ (p : ProverState). p.seen) e;
  turns = subst (λ (m : ProverState). Turns m.problem m.run new.seen new.run) e (subst (λ (s : Seen). Turns mid.problem mid.run s new.run) (sym seen) turns);
  same = problem ∙ ap (λ (p : ProverState). p.problem) e;
  whole = whole;
}
