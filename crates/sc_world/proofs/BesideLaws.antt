-- The phases of a run beside finders put together.
use Rattle.std.proofs.Common.{◌≡◌, ◌∙◌, sym, ap, subst, refl, ℕ, zero, suc, ◌+◌, ◌<◌, ◌≤◌, List, [], ◌∷◌, ◌++◌, length, length-append, map, take, filter, get_or, slice_get, Option, Some, None, false, arith}
use Rattle.std.specs.Prelude.{◌^◌, All, Result, Ok, Err, OnOk, option_map}
use Rattle.std.specs.List.{AllZip, AllByRecursion}
use Rattle.std.proofs.lemmas.List.{length-take}
use Rattle.std.proofs.lemmas.Option.{slice_get-get_or}
use Rattle.std.proofs.lemmas.List.Elements.{length_all_zip, recursion_from_All, All-push}
use Rattle.sc_term.specs.declared.Line.{Line}
use Rattle.sc_term.specs.Numbering.{numbered}
use Rattle.sc_input_rules.specs.Problem.{Stated}
use Rattle.sc_input_rules.specs.WellFormed.{IsProblem}
use Rattle.sc_interp.specs.Versions.{ClaimedStructure}
use Rattle.sc_shelf.specs.Entries.{StartsWith}
use Rattle.sc_shelf.specs.State.{WindowState, PressState, listed, is_closed, new_press, new_window}
use Rattle.sc_core_rules.specs.declared.row.GivenRow.{GivenRow}
use Rattle.sc_core_rules.specs.declared.row.Outcome.{Outcome}
use Rattle.sc_core_rules.specs.declared.row.Outcome.TheVariants as outcome
use Rattle.sc_core_rules.specs.Book.{Book}
use Rattle.sc_core_rules.specs.Selection.{Seen, ratio}
use Rattle.sc_core_rules.specs.Start.{Starts, input_clauses}
use Rattle.sc_core_rules.specs.Run.{started}
use Rattle.sc_core_rules.proofs.NumberLaws.{numbered-suc}
use Rattle.sc_text_run_rules.specs.declared.run.FinderEnd.{FinderEnd}
use Rattle.sc_text_run_rules.specs.declared.run.FinderEnd.TheVariants as ends
use Rattle.sc_text_run_rules.specs.declared.run.MarkRow.{MarkRow}
use Rattle.sc_text_run_rules.specs.declared.run.RunText.{RunText}
use Rattle.sc_text_run_rules.specs.RunValue.{RunValue, version_value, run_value}
use Rattle.sc_core.specs.State.{ProverState, at_start, none_seen, IsReached}
use Rattle.sc_worker.specs.declared.plan.Plan.{Plan}
use Rattle.sc_worker.specs.FinderList.{is_light, candidates_of, versions_of}
use Rattle.sc_worker.specs.Choosing.{Choice, at_first}
use Rattle.sc_worker.specs.Finding.{IsFound}
use Rattle.sc_worker.specs.Plans.{IsPlan, size_of_finder}
use Rattle.sc_worker.proofs.FinderLaws.{IsPublished, finder_publishes, length_of_answers}
use Rattle.sc_world.specs.declared.actors.Actor.{Actor}
use Rattle.sc_world.specs.Abreast.{seen_of, AreLooksSoFar, IsAbreast}
use Rattle.sc_world.specs.Acting.{HasOne, IsOpened, AreOpened, IsReady, Acted, Closed, AllClosed, AreOnShelves, ends_of, HasRun}
use Rattle.sc_world.specs.Beside.{AllFound, IsBeside, column, AreLooksOfTurns, IsWindowOf, AreWindows}
use Rattle.sc_world.specs.Printed.{all_printed}
use Rattle.sc_world.specs.Recorded.{TellsEnd, Tells}
use Rattle.sc_world.proofs.AnswerLaws.{few_versions}
use Rattle.sc_world.proofs.EventLaws.{text_is_of_events}
use Rattle.sc_world.proofs.RecordLaws.{IsPublishedList, is_told}
use Rattle.sc_world.proofs.Stepping.{zip_at}
use Rattle.sc_world.proofs.AbreastLaws.{length_seen, seen_none}

-- ---- elements by their number

none_there : {X : Type 0} (x : X) {B : Type 0} → ◌≡◌ {A = Option X} None (Some x) → B
none_there x {B} e = absurd cc

-- an element of a list that is mapped
pub mapped_at : {A B : Type 0} (g : A → B) (xs : List A) (i : ℕ) (y : B) → slice_get (map g xs) i ≡ Some y → (x : A) × (slice_get xs i ≡ Some x) × (g x ≡ y)
mapped_at g [] i y e = none_there y e
mapped_at g (x ∷ xs) zero y e =
    let some : Some (g x) ≡ Some y = e in
    let same : g x ≡ y = cc in
    (x, refl, same)
mapped_at g (x ∷ xs) (suc i) y e = mapped_at g xs i y e

pub got_at : {A : Type 0} (xs : List A) (i : ℕ) (x : A) → slice_get xs i ≡ Some x → (i < length xs) × ((d : A) → get_or xs i d ≡ x)
got_at [] i x e = none_there x e
got_at (y ∷ xs) zero x e =
    let some : Some y ≡ Some x = e in
    let same : y ≡ x = cc in
    (omega arith, λ d. same)
got_at (y ∷ xs) (suc i) x e = let rest = got_at xs i x e in let low = rest.0 in (omega (arith, low), rest.1)

-- what holds at each place holds of each
pub by_places : {A : Type 0} (P : A → Type 0) (xs : List A) → ((k : ℕ) (d : A) → k < length xs → P (get_or xs k d)) → AllByRecursion P xs
by_places P [] h = tt
by_places P (x ∷ xs) h = (h zero x (omega arith), by_places P xs (λ k d low. h (suc k) d (omega (arith, low))))

-- ---- opening

pub few_left : (problem : Stated) (plan : Plan) (f : ℕ) (choice : Choice) → choice ≡ at_first problem plan f → IsPlan plan → length choice.left ≤ 128
few_left problem plan f choice e is = subst (λ (c : Choice). length c.left ≤ 128) (sym e) few
  where
    few : length (candidates_of problem plan) ≤ 128
    few =
        let count = length-take plan.candidates (filter is_light (input_clauses problem)) in
        let most = is.candidates in
        omega (arith, count, most)

pub all_ready : (problem : Stated) (plan : Plan) (fs : List Actor) → IsPlan plan → AreOpened problem plan fs → All IsReady fs
all_ready problem plan fs is opened k d low =
    let o = opened k d low in record {
      press = o.press ∙ ap (λ (c : Choice). new_press c.problem.symbols) (sym o.choice);
      few = few_left problem plan (k + 1) (get_or fs k d).finder.choice o.choice is;
    }

no_looks : (goal : Option ℕ) → AreLooksSoFar (option_map (λ (n : ℕ). outcome.Proof) goal) [] []
no_looks None = refl
no_looks (Some n) = refl

pub abreast_at_start : (problem : Stated) (n : ℕ) (book : Book) (goal : Option ℕ) (prover : ProverState) (ws : List WindowState) → prover ≡ at_start problem n book goal
    → length ws ≡ n → All (λ (w : WindowState). w ≡ new_window problem.symbols) ws → IsAbreast problem prover ws
abreast_at_start problem n book goal prover ws e many new = subst (λ (p : ProverState). IsAbreast problem p ws) (sym e) (record {
  same = refl;
  whole = refl;
  sees = ap (λ (m : ℕ). none_seen m) (sym many) ∙ sym (seen_none ws (λ k d low. ap (λ (w : WindowState). w.seen) (new k d low)));
  symbols = λ k d low. ap (λ (w : WindowState). w.symbols) (new k d low);
  looked = λ k d low. subst (λ (looks : List ℕ). AreLooksSoFar (started book goal).ended [] looks) (sym (ap (λ (w : WindowState). w.looks) (new k d low))) (no_looks goal);
})

-- where the prover has started, and its windows are new
pub begins_abreast : (problem : Stated) (n : ℕ) (prover : ProverState) (ws shown : List WindowState) → ((book : Book) × (goal : Option ℕ) × Starts problem book goal × (prover ≡ at_start problem n book goal))
    → length ws ≡ n → All (λ (w : WindowState). w ≡ new_window problem.symbols) ws → shown ≡ ws → IsAbreast prover.problem prover shown
begins_abreast problem n prover ws shown (book, goal, starts, e) many new is =
    subst (λ (l : List WindowState). IsAbreast prover.problem prover l) (sym is)
    (subst (λ (p : Stated). IsAbreast p prover ws) (sym (ap (λ (p : ProverState). p.problem) e)) (abreast_at_start problem n book goal prover ws e many new))

pub same_problem : (problem : Stated) (n : ℕ) (prover : ProverState) → ((book : Book) × (goal : Option ℕ) × Starts problem book goal × (prover ≡ at_start problem n book goal)) → prover.problem ≡ problem
same_problem problem n prover (book, goal, starts, e) = ap (λ (p : ProverState). p.problem) e

-- ---- one more is opened

last_or_before : {A : Type 0} (P : ℕ → A → Type 0) (xs ys : List A) (x : A) → ((k : ℕ) (d : A) → k < length xs → P (k + 1) (get_or xs k d)) → P (length xs + 1) x → ys ≡ xs ++ x ∷ []
    → (k : ℕ) (d : A) → k < length ys → P (k + 1) (get_or ys k d)
last_or_before {A} P xs ys x all is e =
    subst (λ (l : List A). (k : ℕ) (d : A) → k < length l → P (k + 1) (get_or l k d)) (sym e)
    (λ k d low.
    let here : 0 + k + 1 ≡ k + 1 = omega arith in
    let end : length xs + 1 ≡ 0 + length xs + 1 = omega arith in
    subst (λ (m : ℕ). P m (get_or (xs ++ x ∷ []) k d)) here
    (by xs 0 (λ j f less. let at : j + 1 ≡ 0 + j + 1 = omega arith in subst (λ (m : ℕ). P m (get_or xs j f)) at (all j f less)) (subst (λ (m : ℕ). P m x) end is) k d low))
  where
    by : (xs : List A) (n : ℕ) → ((k : ℕ) (d : A) → k < length xs → P (n + k + 1) (get_or xs k d)) → P (n + length xs + 1) x → (k : ℕ) (d : A) → k < length (xs ++ x ∷ []) → P (n + k + 1) (get_or (xs ++ x ∷ []) k d)
    by [] n all is zero d low = is
    by [] n all is (suc k) d low = absurd (omega (arith, low))
    by (y ∷ xs) n all is zero d low = all zero d (omega arith)
    by (y ∷ xs) n all is (suc k) d low =
        let here : n + 1 + k + 1 ≡ n + suc k + 1 = omega arith in
        let end : n + length (y ∷ xs) + 1 ≡ n + 1 + length xs + 1 = omega arith in
        subst (λ (m : ℕ). P m (get_or (xs ++ x ∷ []) k d)) here
        (by xs (n + 1) (λ j e less. let at : n + suc j + 1 ≡ n + 1 + j + 1 = omega arith in subst (λ (m : ℕ). P m (get_or xs j e)) at (all (suc j) e (omega (arith, less))))
        (subst (λ (m : ℕ). P m x) end is) k d (omega (arith, low)))

pub one_opened : (problem : Stated) (plan : Plan) (fs gs : List Actor) (number : ℕ) → number ≡ length fs + 1 → AreOpened problem plan fs → HasOne (IsOpened problem plan number) fs gs → AreOpened problem plan gs
one_opened problem plan fs gs number at all one =
    last_or_before (IsOpened problem plan) fs gs one.0 all (subst (λ (n : ℕ). IsOpened problem plan n one.0) at one.1) one.2

pub one_wider : {A : Type 0} (xs ys : List A) (x : A) (n : ℕ) → length xs ≡ n → ys ≡ xs ++ x ∷ [] → length ys ≡ n + 1
one_wider xs ys x n is more = ap length more ∙ length-append xs (x ∷ []) ∙ ap (λ k. k + 1) is

pub one_new : (w : WindowState) (ws vs : List WindowState) → All (λ (x : WindowState). x ≡ w) ws → vs ≡ ws ++ w ∷ [] → All (λ (x : WindowState). x ≡ w) vs
one_new w ws vs all more = subst (λ (l : List WindowState). All (λ (x : WindowState). x ≡ w) l) (sym more) (All-push (λ (x : WindowState). x ≡ w) ws w all refl)

-- ---- from the turns to the close

module _ (fs gs : List Actor) (acted : AllZip Acted fs gs) where
  as_many : length gs ≡ length fs
  as_many = sym (length_all_zip Acted fs gs acted)

  acted_at : (k : ℕ) (d : Actor) → k < length gs → Acted (get_or fs k d) (get_or gs k d)
  acted_at k d low = let many = as_many in zip_at Acted fs gs acted k d d (omega (arith, many, low))

  pub all_unclosed : All (λ (a : Actor). is_closed a.finder.press ≡ false) gs
  all_unclosed k d low = (acted_at k d low).unclosed

  pub on_shelves : (problem : Stated) (vs : List WindowState) → All (λ (a : Actor). a.finder.press.symbols ≡ problem.symbols) fs → All (λ (w : WindowState). w.symbols ≡ problem.symbols) vs → length vs ≡ length gs → AreOnShelves gs vs
  on_shelves problem vs opened symbols wide k d e low =
      let many = as_many in
      symbols k e (omega (arith, wide, low)) ∙ sym ((acted_at k d low).symbols ∙ opened k d (omega (arith, many, low)))

pub opened_over : (problem : Stated) (plan : Plan) (fs : List Actor) → AreOpened problem plan fs → All (λ (a : Actor). a.finder.press.symbols ≡ problem.symbols) fs
opened_over problem plan fs opened k d low = ap (λ (p : PressState). p.symbols) (opened k d low).press

-- a finder that was closed, with its window
pub closed_both : {T E : Type 0} (a b : Actor) (w v : WindowState) (r : Result T E) → OnOk r (v.seen ≡ listed a.finder.press) → OnOk r (v.looks ≡ w.looks ++ length v.seen ∷ [])
    → StartsWith v.seen w.seen → b.end ≡ a.end → OnOk r (Closed a w b v)
closed_both a b w v (Err e) seen looks grows end = tt
closed_both a b w v (Ok x) seen looks grows end = record { seen = seen; looks = looks; grows = grows; end = end }

closed_grows : (gs hs : List Actor) (vs us : List WindowState) → AllClosed gs vs hs us → (k : ℕ) (e : WindowState) → k < length gs → StartsWith (get_or us k e).seen (get_or vs k e).seen
closed_grows [] hs vs us c k e low = absurd (omega (arith, low))
closed_grows (g ∷ gs) hs vs us c k e low = (c k g e low).grows

grown : (vs us : List WindowState) → length us ≡ length vs → ((k : ℕ) (e : WindowState) → k < length vs → StartsWith (get_or us k e).seen (get_or vs k e).seen) → AllZip StartsWith (seen_of us) (seen_of vs)
grown [] [] wide each = tt
grown [] (u ∷ us) wide each = absurd (omega (arith, wide))
grown (v ∷ vs) [] wide each = absurd (omega (arith, wide))
grown (v ∷ vs) (u ∷ us) wide each = (each zero v (omega arith), grown vs us (omega (arith, wide)) (λ k e low. each (suc k) e (omega (arith, low))))

-- ---- after the close

module _ (problem : Stated) (plan : Plan) (o : Outcome) (prover : ProverState) (fs hs : List Actor) (us : List WindowState) (h : HasRun problem o prover fs hs us) where
  many_hs : length hs ≡ length fs
  many_hs = let kept = h.kept in let long = as_many fs h.acting h.acted in omega (arith, kept, long)

  pub many_us : length us ≡ length fs
  many_us = let wide = h.wide in let long = as_many fs h.acting h.acted in omega (arith, wide, long)

  -- the windows saw no less than before
  pub last_grown : AllZip StartsWith (seen_of us) prover.seen
  last_grown =
      let wide = h.wide in
      let many = h.many in
      subst (λ (lists : Seen). AllZip StartsWith (seen_of us) lists) (sym h.abreast.sees)
      (grown h.windows us (omega (arith, wide, many)) (λ k e low. closed_grows h.acting hs h.windows us h.closed k e (omega (arith, low, many))))

  module _ (is : IsPlan plan) (opened : AreOpened problem plan fs) where
    found_at : (i : ℕ) (x : Actor) (u : WindowState) → i < length fs → IsFound problem plan (i + 1) (get_or hs i x).end (get_or us i u).seen
    found_at i x u low =
        let long = as_many fs h.acting h.acted in
        let low2 : i < length h.acting = omega (arith, low, long) in
        let op = opened i x low in
        let a = acted_at fs h.acting h.acted i x low2 in
        let c = h.closed i x u low2 in
        let same : (get_or fs i x).finder.choice.problem ≡ problem = ap (λ (c : Choice). c.problem) op.choice in
        subst (λ (end : FinderEnd). IsFound problem plan (i + 1) end (get_or us i u).seen) (sym c.end)
        (subst (λ (list : List ClaimedStructure). IsFound problem plan (i + 1) (get_or h.acting i x).end list) (sym c.seen)
        (subst (λ (p : Stated). IsFound p plan (i + 1) (get_or h.acting i x).end (listed (get_or h.acting i x).finder.press)) same
        (a.found plan (i + 1) (op.choice ∙ ap (λ (p : Stated). at_first p plan (i + 1)) (sym same)))))

    found_each : (f : ℕ) (end : FinderEnd) (list : List ClaimedStructure) → numbered (ends_of hs) f ≡ Some end → numbered (seen_of us) f ≡ Some list → IsFound problem plan f end list
    found_each zero end list e k = none_there end e
    found_each (suc i) end list e k =
        let x = mapped_at (λ (a : Actor). a.end) hs i end (sym (numbered-suc (ends_of hs) i) ∙ e) in
        let u = mapped_at (λ (w : WindowState). w.seen) us i list (sym (numbered-suc (seen_of us) i) ∙ k) in
        let gx = got_at hs i x.0 x.1 in
        let gu = got_at us i u.0 u.1 in
        let low = gx.0 in
        let many = many_hs in
        let one : i + 1 ≡ suc i = omega arith in
        subst (λ (f : ℕ). IsFound problem plan f end list) one
        (subst (λ (e : FinderEnd). IsFound problem plan (i + 1) e list) (ap (λ (a : Actor). a.end) (gx.1 x.0) ∙ x.2)
        (subst (λ (l : List ClaimedStructure). IsFound problem plan (i + 1) (get_or hs i x.0).end l) (ap (λ (w : WindowState). w.seen) (gu.1 u.0) ∙ u.2)
        (found_at i x.0 u.0 (omega (arith, low, many)))))

    pub all_found : length fs ≡ plan.finders → AllFound problem plan (ends_of hs) (seen_of us)
    all_found finders = record {
      ends = let many = many_hs in let long = length_ends hs in omega (arith, many, long, finders);
      lists = let many = many_us in let long = length_seen us in omega (arith, many, long, finders);
      each = found_each;
    }
      where
        length_ends : (as' : List Actor) → length (ends_of as') ≡ length as'
        length_ends [] = refl
        length_ends (a ∷ as') = ap (λ n. suc n) (length_ends as')

    some_actor : (P : Type 0) → 0 < length fs → (Actor → P) → P
    some_actor P some f = by fs some
      where
        by : (fs : List Actor) → 0 < length fs → P
        by [] low = absurd (omega (arith, low))
        by (x ∷ fs) low = f x

    few_found : (f : ℕ) (end : FinderEnd) (list : List ClaimedStructure) → IsFound problem plan f end list → length list ≤ 2 ^ 31
    few_found f end list k =
        let count = length_of_answers problem (size_of_finder plan f) plan.nodes [] (take k.worked (candidates_of problem plan)) k.answers k.work.finds in
        let taken = length-take k.worked (candidates_of problem plan) in
        let most = few_left problem plan f (at_first problem plan f) refl is in
        let few = few_versions k.answers in
        let e = ap (λ (l : List ClaimedStructure). length l) k.published in
        omega (arith, count, taken, most, few, e)

    -- no list is long
    pub all_few : 0 < length fs → All (λ (w : WindowState). length w.seen ≤ 2 ^ 31) us
    all_few some k d low =
        let many = many_us in
        some_actor (length (get_or us k d).seen ≤ 2 ^ 31) some (λ x. few_found (k + 1) (get_or hs k x).end (get_or us k d).seen (found_at k x d (omega (arith, low, many))))

  -- ---- the windows

  pub are_windows : 0 < length fs → (text : RunValue) → text.given ≡ prover.run.given → text.outcome ≡ o → AreWindows text (seen_of us) us
  are_windows some text given ends = record { one_each = sym (length_seen us); each = window_at fs some }
    where
      window_at : (xs : List Actor) → 0 < length xs → (f : ℕ) (list : List ClaimedStructure) (w : WindowState) → numbered (seen_of us) f ≡ Some list → numbered us f ≡ Some w → IsWindowOf text f list w
      window_at [] low f list w e k = absurd (omega (arith, low))
      window_at (x ∷ xs) low zero list w e k = none_there list e
      window_at (x ∷ xs) low (suc i) list w e k =
          let gw = got_at us i w (sym (numbered-suc us i) ∙ k) in
          let u = mapped_at (λ (w : WindowState). w.seen) us i list (sym (numbered-suc (seen_of us) i) ∙ e) in
          let gu = got_at us i u.0 u.1 in
          let less = gw.0 in
          let wide = h.wide in
          let many = h.many in
          let c = h.closed i x w (omega (arith, less, wide)) in
          let here : get_or us i w ≡ w = gw.1 w in
          let seen : w.seen ≡ list = ap (λ (w : WindowState). w.seen) (sym here ∙ gu.1 w) ∙ u.2 in
          let one : i + 1 ≡ suc i = omega arith in
          let so : AreLooksSoFar prover.run.ended (column (i + 1) prover.run.given) (get_or h.windows i w).looks = h.abreast.looked i w (omega (arith, less, wide, many)) in
          let told : AreLooksOfTurns o (column (i + 1) prover.run.given) (get_or h.windows i w).looks =
          subst (λ (p : Option Outcome). AreLooksSoFar p (column (i + 1) prover.run.given) (get_or h.windows i w).looks) h.ended so in
          record {
            seen = seen;
            turns = (get_or h.windows i w).looks;
            of_turns =
                subst (λ (p : Outcome). AreLooksOfTurns p (column (suc i) text.given) (get_or h.windows i w).looks) (sym ends)
                (subst (λ (rows : List GivenRow). AreLooksOfTurns o (column (suc i) rows) (get_or h.windows i w).looks) (sym given)
                (subst (λ (f : ℕ). AreLooksOfTurns o (column f prover.run.given) (get_or h.windows i w).looks) one told));
            looks = ap (λ (w : WindowState). w.looks) (sym here) ∙ c.looks
                ∙ ap (λ (list : List ClaimedStructure). (get_or h.windows i w).looks ++ length list ∷ []) (ap (λ (w : WindowState). w.seen) here ∙ seen);
          }

-- ---- the record

module _ (problem : Stated) (plan : Plan) where
  published_list : (f : ℕ) (end : FinderEnd) (list : List ClaimedStructure) → IsProblem problem → IsFound problem plan f end list → IsPublishedList problem list
  published_list f end list such k = (
    size_of_finder plan f,
    subst (AllByRecursion (IsPublished problem (size_of_finder plan f))) (sym k.published)
        (recursion_from_All (IsPublished problem (size_of_finder plan f)) (versions_of k.answers) (finder_publishes problem plan f k.worked k.answers such k.work.finds)),
  )

  all_published : (told : List FinderEnd) (versions : Seen) → IsProblem problem → AllFound problem plan told versions → AllByRecursion (IsPublishedList problem) versions
  all_published told versions such found = by_places (IsPublishedList problem) versions each
    where
      each : (k : ℕ) (d : List ClaimedStructure) → k < length versions → IsPublishedList problem (get_or versions k d)
      each k d low =
          let many = found.ends in
          let lists = found.lists in
          let end : FinderEnd = get_or told k ends.Memory in
          published_list (suc k) end (get_or versions k d) such
          (found.each (suc k) end (get_or versions k d) (numbered-suc told k ∙ slice_get-get_or told k ends.Memory (omega (arith, low, many, lists))) (numbered-suc versions k ∙ slice_get-get_or versions k d low))

-- what a run has told, by its parts
pub is_beside : (problem : Stated) (plan : Plan) (prover : ProverState) → prover.problem ≡ problem → IsProblem prover.problem → IsReached prover.problem prover.seen prover.run → (o : Outcome) → prover.run.ended ≡ Some o
    → (text : RunText) (lines : List Line) (rows : List MarkRow) (all : List FinderEnd) → TellsEnd prover.problem prover.seen prover.run o lines rows
    → text.ratio ≡ ratio problem → map (map version_value) text.lists ≡ all_printed prover.seen → text.given ≡ prover.run.given → text.kept ≡ prover.run.book.kept
    → text.ends ≡ all → text.outcome ≡ o → text.proof ≡ lines → text.marks ≡ rows → AllFound problem plan all prover.seen → IsBeside problem plan prover.seen (run_value text)
is_beside problem plan prover same such reached o ended text lines rows all told ratio_is lists given kept ends_are outcome proof marks found = record {
  tells = tells;
  found = subst (λ (e : List FinderEnd). AllFound problem plan e prover.seen) (sym ends_are) found;
  events = text_is_of_events problem prover.seen (run_value text) well_formed tells;
}
  where
    well_formed : IsProblem problem
    well_formed = subst IsProblem same such

    tells : Tells problem prover.seen (run_value text)
    tells = is_told problem prover.seen prover.run o ended well_formed
        (subst (λ (p : Stated). IsReached p prover.seen prover.run) same reached)
        (all_published problem plan all prover.seen well_formed found)
        (run_value text) lists ratio_is given kept outcome
        (subst (λ (p : Stated). TellsEnd p prover.seen prover.run o text.proof text.marks) same
        (subst (λ (l : List Line). TellsEnd prover.problem prover.seen prover.run o l text.marks) (sym proof)
        (subst (λ (m : List MarkRow). TellsEnd prover.problem prover.seen prover.run o lines m) (sym marks) told)))
