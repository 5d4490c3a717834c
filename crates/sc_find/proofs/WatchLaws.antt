-- Instances stay watched as cells get values one after another and lose them again.
use Rattle.std.proofs.Common.{◌≡◌, ◌∙◌, sym, ap, subst, refl, ℕ, zero, suc, ◌+◌, ◌-◌, ◌<◌, ◌≤◌, ◌⊎◌, inl, inr, Bool, true, false, List, [], ◌∷◌, ◌++◌, length, slice_get, get_or, Option, Some, arith}
use Rattle.std.specs.List.{All, Contains}
use Rattle.std.proofs.lemmas.Bool.{cases_lt}
use Rattle.std.proofs.lemmas.List.{append-nil, append_assoc, length-append, length_push}
use Rattle.std.proofs.lemmas.List.Elements.{All-contains, All-append, Contains-append_left, Contains-append_right, Contains-append_cases}
use Rattle.std.proofs.lemmas.Option.{slice_get-get_or, slice_get_within}
use Rattle.sc_term.specs.declared.Clause.{Clause}
use Rattle.sc_cells.specs.declared.instances.GroundInstance.{GroundInstance}
use Rattle.sc_cells.specs.Cells.{Entry, Prefix, IsConsistent}
use Rattle.sc_cells.specs.Ground.{AreInstances, IsInstance, instance_numbers}
use Rattle.sc_find.specs.declared.watch.Watch.{Watch}
use Rattle.sc_find.specs.Linked.{Board, IsLatest}
use Rattle.sc_find.specs.Models.{Task}
use Rattle.sc_find.specs.Prepared.{IsFalseInstance}
use Rattle.sc_find.specs.Watching.{IsOpenUpTo, Waits, IsWatched, AreWatched, IsWatching, IsGrown, IsTakenBack, Goes, AllGo}
use Rattle.sc_find.proofs.InstanceLaws.{is_first, contained_at, instances_consistent, consistent_instances}
use Rattle.sc_find.proofs.LinkLaws.{front_at}
use Rattle.sc_find.proofs.OneLaws.{one_order}

contains_at : {A : Type 0} (P : A → Type 0) (xs : List A) → ((x : A) → Contains xs x → P x) → All P xs
contains_at P xs h k d lt = h (get_or xs k d) (is_first xs k (get_or xs k d) (slice_get-get_or xs k d lt))

-- a front of a list with one more is the whole, or a front of the list
front_or_whole : (values front rest : List ℕ) (v : ℕ) → values ++ v ∷ [] ≡ front ++ rest → (front ≡ values ++ v ∷ []) ⊎ ((less : List ℕ) × (values ≡ front ++ less))
front_or_whole values [] rest v e = inr (values, refl)
front_or_whole [] (x ∷ front) rest v e =
    let head : v ≡ x = cc in
    let tail : [] ≡ front ++ rest = cc in
    inl (by front rest x head tail)
  where
    by : (front rest : List ℕ) (x : ℕ) → v ≡ x → [] ≡ front ++ rest → x ∷ front ≡ v ∷ []
    by [] rest x head tail = λ i. sym head i ∷ []
    by (y ∷ ys) rest x head tail = cc
front_or_whole (w ∷ values) (x ∷ front) rest v e =
    let head : w ≡ x = cc in
    let tail : values ++ v ∷ [] ≡ front ++ rest = cc in
    elim (front_or_whole values front rest v tail) [
      | inl whole ↦ inl (λ i. sym head i ∷ whole i)
      | inr less ↦ inr (less.0, λ i. head i ∷ less.1 i)
    ]

no_front : (front rest : List ℕ) → [] ≡ front ++ rest → front ≡ []
no_front [] rest e = refl
no_front (x ∷ xs) rest e = cc

module _ (clauses : List Clause) (instances : List GroundInstance) where
  -- ---- one instance

  pub watched_grown : (p : Prefix) (ws added : List Watch) (n : ℕ) → IsWatched clauses instances p ws n → IsWatched clauses instances p (ws ++ added) n
  watched_grown p ws added n h = record {
    cell = h.cell;
    later = h.later;
    stays = h.stays;
    there = elim h.there [
      | inl past ↦ inl past
      | inr at ↦ inr (at.0, Contains-append_left ws added at.0 at.1, at.2, at.3, at.4)
    ];
  }

  watched_taken : (p : Prefix) (ws gone : List Watch) (depth n : ℕ) → length p.values ≤ depth → All (λ (w : Watch). depth < w.depth) gone
      → IsWatched clauses instances p (ws ++ gone) n → IsWatched clauses instances p ws n
  watched_taken p ws gone depth n few deeper h = record {
    cell = h.cell;
    later = h.later;
    stays = h.stays;
    there = elim h.there [
      | inl past ↦ inl past
      | inr at ↦ elim (Contains-append_cases ws gone at.0 at.1) [
        | inl kept ↦ inr (at.0, kept, at.2, at.3, at.4)
        | inr lost ↦ absurd (omega (arith, All-contains (λ (w : Watch). depth < w.depth) gone at.0 deeper lost, at.4, few))
      ]
    ];
  }

  -- it waits for a cell at which it was given a watch
  pub watch_added : (p : Prefix) (ws : List Watch) (w : Watch) (i : GroundInstance) → slice_get instances w.instance ≡ Some i → Waits clauses p i (Some w.cell) → w.depth ≤ length p.values
      → IsWatched clauses instances p (ws ++ w ∷ []) w.instance
  watch_added p ws w i at waits depth = record {
    cell = w.cell;
    later = waits.0;
    stays = λ j here. subst (λ x. IsOpenUpTo clauses p x w.cell) (one i j at here) waits.1;
    there = inr (w, Contains-append_right ws (w ∷ []) w (0, omega arith, refl), refl, refl, depth);
  }
    where
      one : (i j : GroundInstance) → slice_get instances w.instance ≡ Some i → slice_get instances w.instance ≡ Some j → i ≡ j
      one i j at here = let same : ◌≡◌ {A = Option GroundInstance} (Some i) (Some j) = sym at ∙ here in cc

  -- it waits for none
  pub never_watched : (p : Prefix) (ws : List Watch) (n cell : ℕ) (i : GroundInstance) → slice_get instances n ≡ Some i → Waits clauses p i (Some cell) → length p.cells ≤ cell
      → IsWatched clauses instances p ws n
  never_watched p ws n cell i at waits past = record {
    cell = cell;
    later = waits.0;
    stays = λ j here. subst (λ x. IsOpenUpTo clauses p x cell) (let same : ◌≡◌ {A = Option GroundInstance} (Some i) (Some j) = sym at ∙ here in one i j same) waits.1;
    there = inl past;
  }
    where
      one : (i j : GroundInstance) → ◌≡◌ {A = Option GroundInstance} (Some i) (Some j) → i ≡ j
      one i j e = cc

  watched_open : (p : Prefix) (ws : List Watch) (n : ℕ) (i : GroundInstance) → length p.values ≤ length p.cells → slice_get instances n ≡ Some i
      → IsWatched clauses instances p ws n → ¬ IsFalseInstance clauses p i
  watched_open p ws n i few at h f =
      let none : p.values ++ [] ≡ p.values = append-nil p.values in
      h.stays i at [] (subst (λ vs. length vs ≤ length p.cells) (sym none) few) (subst (λ vs. length vs ≤ h.cell) (sym none) h.later)
      (subst (λ vs. IsFalseInstance clauses (record { cells = p.cells; values = vs }) i) (sym none) f)

  -- ---- all of them

  pub are_grown : (p : Prefix) (ws added : List Watch) → All (λ (w : Watch). w.instance < length instances) added → AreWatched clauses instances p ws → AreWatched clauses instances p (ws ++ added)
  are_grown p ws added places h = record {
    places = All-append (λ (w : Watch). w.instance < length instances) ws added h.places places;
    each = λ front rest is n lt. watched_grown (record { cells = p.cells; values = front }) ws added n (h.each front rest is n lt);
  }

  pub are_taken : (p : Prefix) (ws gone : List Watch) → All (λ (w : Watch). length p.values < w.depth) gone → AreWatched clauses instances p (ws ++ gone) → AreWatched clauses instances p ws
  are_taken p ws gone deeper h = record {
    places = contains_at (λ (w : Watch). w.instance < length instances) ws
        (λ w c. All-contains (λ (w : Watch). w.instance < length instances) (ws ++ gone) w h.places (Contains-append_left ws gone w c));
    each = λ front rest is n lt. watched_taken (record { cells = p.cells; values = front }) ws gone (length p.values) n
        (omega (arith, ap length is, length-append front rest)) deeper (h.each front rest is n lt);
  }

  pub are_front : (cells : List Entry) (values : List ℕ) (v : ℕ) (ws : List Watch) → AreWatched clauses instances (record { cells = cells; values = values ++ v ∷ [] }) ws
      → AreWatched clauses instances (record { cells = cells; values = values }) ws
  are_front cells values v ws h = record {
    places = h.places;
    each = λ front rest is n lt. h.each front (rest ++ v ∷ []) (ap (λ vs. vs ++ v ∷ []) is ∙ append_assoc front rest (v ∷ [])) n lt;
  }

  pub are_first : (p : Prefix) (ws : List Watch) → p.values ≡ [] → All (λ (w : Watch). w.instance < length instances) ws
      → ((n : ℕ) → n < length instances → IsWatched clauses instances p ws n) → AreWatched clauses instances p ws
  are_first p ws empty places h = record {
    places = places;
    each = λ front rest is n lt.
        let none : p.values ≡ front = empty ∙ sym (no_front front rest (sym empty ∙ is)) in
        subst (λ vs. IsWatched clauses instances (record { cells = p.cells; values = vs }) ws n) none (h n lt);
  }

  pub are_next : (cells : List Entry) (values : List ℕ) (v : ℕ) (ws added : List Watch) → AreWatched clauses instances (record { cells = cells; values = values }) ws
      → All (λ (w : Watch). w.instance < length instances) added
      → ((n : ℕ) → n < length instances → IsWatched clauses instances (record { cells = cells; values = values ++ v ∷ [] }) (ws ++ added) n)
      → AreWatched clauses instances (record { cells = cells; values = values ++ v ∷ [] }) (ws ++ added)
  are_next cells values v ws added h places all = record {
    places = All-append (λ (w : Watch). w.instance < length instances) ws added h.places places;
    each = λ front rest is n lt. elim (front_or_whole values front rest v is) [
      | inl whole ↦ subst (λ vs. IsWatched clauses instances (record { cells = cells; values = vs }) (ws ++ added) n) (sym whole) (all n lt)
      | inr less ↦ watched_grown (record { cells = cells; values = front }) ws added n (h.each front less.0 less.1 n lt)
    ];
  }

  pub none_false : (p : Prefix) (ws : List Watch) → length p.values ≤ length p.cells → AreWatched clauses instances p ws → All (λ i. ¬ IsFalseInstance clauses p i) instances
  none_false p ws few h n d lt = watched_open p ws n (get_or instances n d) few (slice_get-get_or instances n d lt) (h.each p.values [] (sym (append-nil p.values)) n lt)

  -- ---- waking those that wait for a cell

  -- all that waited there from some number on are watched anew; before it, the latest there has this number
  pub record IsWaking (p : Prefix) (cell : ℕ) (start now : List Watch) (at : ℕ) : Type 0 where
    pub many : ℕ
    pub few : many ≤ length start
    pub latest : IsLatest start many cell at
    pub done : (m : ℕ) (w : Watch) → many ≤ m → slice_get start m ≡ Some w → w.cell ≡ cell → IsWatched clauses instances p now w.instance

  pub waking_first : (p : Prefix) (cell : ℕ) (start : List Watch) (at : ℕ) → IsLatest start (length start) cell at → IsWaking p cell start start at
  waking_first p cell start at h = record {
    many = length start;
    few = omega arith;
    latest = h;
    done = λ m w past is there. absurd (omega (arith, past, slice_get_within start m w is));
  }

  pub waking_more : (p : Prefix) (cell : ℕ) (start now added : List Watch) (at : ℕ) → IsWaking p cell start now at → IsWaking p cell start (now ++ added) at
  waking_more p cell start now added at h = record {
    many = h.many;
    few = h.few;
    latest = h.latest;
    done = λ m w past is there. watched_grown p now added w.instance (h.done m w past is there);
  }

  -- the watch of that number was looked at
  pub waking_next : (p : Prefix) (cell : ℕ) (start added now : List Watch) (at k : ℕ) (w : Watch) → IsWaking p cell start now at → at ≡ k + 1
      → slice_get (start ++ added) k ≡ Some w → IsLatest (start ++ added) k w.cell w.next → IsWatched clauses instances p now w.instance → IsWaking p cell start now w.next
  waking_next p cell start added now at k w h is there next watched =
      let within : k < length start = omega (arith, h.few, h.latest.within, is) in
      let here : slice_get start k ≡ Some w = sym (front_at start added k within) ∙ there in
      let at_cell : w.cell ≡ cell = h.latest.here k w is here in
      record {
        many = k;
        few = omega (arith, within);
        latest = latest_in (subst (λ c. IsLatest (start ++ added) k c w.next) at_cell next) within;
        done = λ m x past x_is x_there. elim (cases_lt m (k + 1)) [
          | inl lt ↦
              let same : k ≡ m = omega (arith, lt, past) in
              let one : ◌≡◌ {A = Option Watch} (Some w) (Some x) = sym here ∙ ap (slice_get start) same ∙ x_is in
              let x_w : w ≡ x = cc in
              subst (λ (y : Watch). IsWatched clauses instances p now y.instance) x_w watched
          | inr more ↦ elim (cases_lt m h.many) [
            | inl lt ↦ absurd (h.latest.after m x (omega (arith, more, is)) lt x_is x_there)
            | inr past ↦ h.done m x past x_is x_there
          ]
        ];
      }
    where
      latest_in : IsLatest (start ++ added) k cell w.next → k < length start → IsLatest start k cell w.next
      latest_in l lt = record {
        within = l.within;
        here = λ n y e y_is. l.here n y e (front_at start added n (omega (arith, l.within, e, lt)) ∙ y_is);
        after = λ n y from to y_is. l.after n y from to (front_at start added n (omega (arith, to, lt)) ∙ y_is);
      }

  -- none is left to look at
  pub waking_last : (cells : List Entry) (values : List ℕ) (v : ℕ) (start added : List Watch) → AreWatched clauses instances (record { cells = cells; values = values }) start
      → length values < length cells → IsWaking (record { cells = cells; values = values ++ v ∷ [] }) (length values) start (start ++ added) 0
      → (n : ℕ) → n < length instances → IsWatched clauses instances (record { cells = cells; values = values ++ v ∷ [] }) (start ++ added) n
  waking_last cells values v start added h room waking n lt =
      let was = h.each values [] (sym (append-nil values)) n lt in
      elim (cases_lt (length values) was.cell) [
        | inl later ↦ record {
          cell = was.cell;
          later = omega (arith, later, length_push values v);
          stays = λ i at more within most f.
              let joined : values ++ v ∷ [] ++ more ≡ values ++ (v ∷ more) = append_assoc values (v ∷ []) more in
              was.stays i at (v ∷ more) (subst (λ vs. length vs ≤ length cells) joined within) (subst (λ vs. length vs ≤ was.cell) joined most)
              (subst (λ vs. IsFalseInstance clauses (record { cells = cells; values = vs }) i) joined f);
          there = elim was.there [
            | inl past ↦ inl past
            | inr at ↦ inr (at.0, Contains-append_left start added at.0 at.1, at.2, at.3, omega (arith, at.4, length_push values v))
          ];
        }
        | inr here ↦
            let cell_is : was.cell ≡ length values = omega (arith, here, was.later) in
            elim was.there [
              | inl past ↦ absurd (omega (arith, past, cell_is, room))
              | inr at ↦
                  let place = contained_at start at.0 at.1 in
                  let at_cell : at.0.cell ≡ length values = at.3 ∙ cell_is in
                  subst (IsWatched clauses instances (record { cells = cells; values = values ++ v ∷ [] }) (start ++ added)) at.2
                  (elim (cases_lt place.0 waking.many) [
                    | inl before ↦ absurd (waking.latest.after place.0 at.0 (omega arith) before place.1 at_cell)
                    | inr past ↦ waking.done place.0 at.0 past place.1 at_cell
                  ])
            ]
      ]

-- ---- boards that grow

pub grown_none : (many : ℕ) (board : Board) → IsGrown many board board
grown_none many board = record { cells = refl; added = []; watches = sym (append-nil board.watches); places = λ k d lt. absurd (omega (arith, lt)) }

pub grown_more : (many : ℕ) (a b c : Board) → IsGrown many a b → IsGrown many b c → IsGrown many a c
grown_more many a b c g h = record {
  cells = h.cells ∙ g.cells;
  added = g.added ++ h.added;
  watches = h.watches ∙ ap (λ ws. ws ++ h.added) g.watches ∙ append_assoc a.watches g.added h.added;
  places = All-append (λ (w : Watch). w.instance < many) g.added h.added g.places h.places;
}

pub grown_one : (many : ℕ) (a b : Board) (w : Watch) → b ≡ record { cells = a.cells; watches = a.watches ++ w ∷ [] } → w.instance < many → IsGrown many a b
grown_one many a b w is lt = record {
  cells = ap (λ (x : Board). x.cells) is;
  added = w ∷ [];
  watches = ap (λ (x : Board). x.watches) is;
  places = contains_at (λ (w : Watch). w.instance < many) (w ∷ []) (λ x c. by x c);
}
  where
    by : (x : Watch) → Contains (w ∷ []) x → x.instance < many
    by x (zero, in_it, e) = subst (λ (y : Watch). y.instance < many) e lt
    by x (suc k, in_it, e) = absurd (omega (arith, in_it))

pub grown_places : (many : ℕ) (a b : Board) → IsGrown many a b → All (λ (w : Watch). w.instance < many) a.watches → All (λ (w : Watch). w.instance < many) b.watches
grown_places many a b g h = subst (All (λ (w : Watch). w.instance < many)) (sym g.watches) (All-append (λ (w : Watch). w.instance < many) a.watches g.added h g.places)

pub in_place : (many k : ℕ) (ws : List Watch) (w : Watch) → All (λ (w : Watch). w.instance < many) ws → slice_get ws k ≡ Some w → w.instance < many
in_place many k ws w h is = All-contains (λ (w : Watch). w.instance < many) ws w h (is_first ws k w is)

pub within_grown : (many at n : ℕ) (a b : Board) → IsGrown many a b → at ≤ n → n ≤ length a.watches → at ≤ length b.watches
within_grown many at n a b g le most = omega (arith, le, most, ap length g.watches, length-append a.watches g.added)

module _ (clauses : List Clause) (instances : List GroundInstance) where
  -- of the instances so far, and of one more
  pub each_further : (p : Prefix) (number n : ℕ) (a b : Board) (goes : Bool) → ((n : ℕ) → n < number → IsWatched clauses instances p a.watches n) → IsGrown (length instances) a b
      → Goes clauses instances p b.watches number goes → goes ≡ true → n < number + 1 → IsWatched clauses instances p b.watches n
  each_further p number n a b goes each g h is lt = elim (cases_lt n number) [
    | inl less ↦ subst (λ ws. IsWatched clauses instances p ws n) (sym g.watches) (watched_grown clauses instances p a.watches g.added n (each n less))
    | inr more ↦
        let same : number ≡ n = omega (arith, lt, more) in
        subst (λ k. IsWatched clauses instances p b.watches k) same (subst (Goes clauses instances p b.watches number) is h)
  ]

  pub one_false : (p : Prefix) (ws : List Watch) (n : ℕ) (goes : Bool) → n < length instances → Goes clauses instances p ws n goes → goes ≡ false → AllGo clauses instances p ws false
  one_false p ws n goes lt h is =
      let none : GroundInstance = record { place = 0; values = [] } in
      let at = slice_get-get_or instances n none lt in
      (n, get_or instances n none, at, subst (Goes clauses instances p ws n) is h (get_or instances n none) at)

  pub all_first : (p : Prefix) (a b : Board) (cells : ℕ) → a ≡ record { cells = cells; watches = [] } → p.values ≡ [] → IsGrown (length instances) a b
      → ((n : ℕ) → n < length instances → IsWatched clauses instances p b.watches n) → AreWatched clauses instances p b.watches
  all_first p a b cells is empty g each =
      are_first clauses instances p b.watches empty (grown_places (length instances) a b g (subst (All (λ (w : Watch). w.instance < length instances)) (sym (ap (λ (x : Board). x.watches) is)) (λ k d lt. absurd (omega (arith, lt))))) each

  pub wake_first : (p : Prefix) (cell at : ℕ) (a : Board) → IsLatest a.watches (length a.watches) cell at → IsWaking clauses instances p cell a.watches a.watches at
  wake_first p cell at a h = waking_first clauses instances p cell a.watches at h

  pub wake_step : (p : Prefix) (cell at : ℕ) (start now next : Board) (w : Watch) → IsGrown (length instances) start now → IsWaking clauses instances p cell start.watches now.watches at → 1 ≤ at
      → slice_get now.watches (at - 1) ≡ Some w → IsLatest now.watches (at - 1) w.cell w.next → IsGrown (length instances) now next
      → IsWatched clauses instances p next.watches w.instance → IsWaking clauses instances p cell start.watches next.watches w.next
  wake_step p cell at start now next w g waking some there latest more watched =
      let before = subst (λ ws. IsWaking clauses instances p cell start.watches ws at) (sym more.watches) (waking_more clauses instances p cell start.watches now.watches more.added at waking) in
      waking_next clauses instances p cell start.watches g.added next.watches at (at - 1) w before (omega (arith, some))
      (subst (λ ws. slice_get ws (at - 1) ≡ Some w) g.watches there) (subst (λ ws. IsLatest ws (at - 1) w.cell w.next) g.watches latest) watched

  pub wake_last : (p : Prefix) (before : List ℕ) (v cell at : ℕ) (start now : Board) → p.values ≡ before ++ v ∷ [] → cell ≡ length before → length p.values ≤ length p.cells
      → AreWatched clauses instances (record { cells = p.cells; values = before }) start.watches → IsGrown (length instances) start now
      → IsWaking clauses instances p cell start.watches now.watches at → at ≡ 0 → AreWatched clauses instances p now.watches
  wake_last p before v cell at start now is here few was g waking none =
      let q : Prefix = record { cells = p.cells; values = before ++ v ∷ [] } in
      let whole : p ≡ q = λ i. record { cells = p.cells; values = is i } in
      let room : length before < length p.cells = omega (arith, few, ap length is, length_push before v) in
      let one = subst (λ ws. IsWaking clauses instances p cell start.watches ws at) g.watches waking in
      let two = subst (λ k. IsWaking clauses instances p k start.watches (start.watches ++ g.added) at) here one in
      let three = subst (λ k. IsWaking clauses instances p (length before) start.watches (start.watches ++ g.added) k) none two in
      let four = subst (λ x. IsWaking clauses instances x (length before) start.watches (start.watches ++ g.added) 0) whole three in
      subst (λ x. AreWatched clauses instances x now.watches) (sym whole) (subst (AreWatched clauses instances q) (sym g.watches)
      (are_next clauses instances p.cells before v start.watches g.added was g.places (waking_last clauses instances p.cells before v start.watches g.added was room four)))

-- ---- for a task

one_instances : (clauses : List Clause) (size : ℕ) (xs ys : List GroundInstance) → AreInstances clauses size xs → AreInstances clauses size ys → xs ≡ ys
one_instances clauses size xs ys h k = one_order instance_numbers (IsInstance clauses size) xs ys h k

module _ (task : Task) (instances : List GroundInstance) (some : 1 ≤ task.size) (are : AreInstances task.clauses task.size instances) where
  -- what is watched for the task is watched for these instances
  pub of_instances : (p : Prefix) (board : Board) → IsWatching task p board → AreWatched task.clauses instances p board.watches
  of_instances p board h = subst (λ is. AreWatched task.clauses is p board.watches) (one_instances task.clauses task.size h.instances instances h.are are) h.watched

  pub watching : (p : Prefix) (board : Board) → board.cells ≡ length p.cells → AreWatched task.clauses instances p board.watches → IsWatching task p board
  watching p board cells h = record { cells = cells; instances = instances; are = are; watched = h }

  pub watching_grown : (p : Prefix) (before after : Board) → IsGrown (length instances) before after → IsWatching task p before → IsWatching task p after
  watching_grown p before after g h = watching p after (g.cells ∙ h.cells)
      (subst (AreWatched task.clauses instances p) (sym g.watches) (are_grown task.clauses instances p before.watches g.added g.places (of_instances p before h)))

  pub go_watching : (p : Prefix) (board : Board) (b : Bool) → board.cells ≡ length p.cells → AllGo task.clauses instances p board.watches b → b ≡ true → IsWatching task p board
  go_watching p board b cells h is = watching p board cells (subst (AllGo task.clauses instances p board.watches) is h)

  pub go_consistent : (p : Prefix) (ws : List Watch) (b : Bool) → length p.values ≤ length p.cells → AllGo task.clauses instances p ws b → b ≡ true → IsConsistent task.clauses task.size p
  go_consistent p ws b few h is =
      instances_consistent task.clauses task.size instances some are p (none_false task.clauses instances p ws few (subst (AllGo task.clauses instances p ws) is h))

  pub go_refused : (p : Prefix) (ws : List Watch) (b : Bool) → AllGo task.clauses instances p ws b → b ≡ false → ¬ IsConsistent task.clauses task.size p
  go_refused p ws b h is consistent =
      let one = subst (AllGo task.clauses instances p ws) is h in
      All-contains (λ i. ¬ IsFalseInstance task.clauses p i) instances one.1 (consistent_instances task.clauses task.size instances some are p consistent)
      (is_first instances one.0 one.1 one.2) one.3

-- what the checks answer, which see the clauses and the instances as lists of their own
pub go_same : (clauses cs : List Clause) (instances is : List GroundInstance) (p : Prefix) (ws : List Watch) (b : Bool) → cs ≡ clauses → is ≡ instances → AllGo cs is p ws b
    → AllGo clauses instances p ws b
go_same clauses cs instances is p ws b same all h = subst (λ xs. AllGo clauses xs p ws b) all (subst (λ xs. AllGo xs is p ws b) same h)

pub watched_same : (clauses cs : List Clause) (instances is : List GroundInstance) (p : Prefix) (ws : List Watch) → cs ≡ clauses → is ≡ instances → AreWatched clauses instances p ws
    → AreWatched cs is p ws
watched_same clauses cs instances is p ws same all h = subst (λ xs. AreWatched cs xs p ws) (sym all) (subst (λ xs. AreWatched xs instances p ws) (sym same) h)

pub watching_back : (task : Task) (p q : Prefix) (v : ℕ) (before after : Board) → q ≡ record { cells = p.cells; values = p.values ++ v ∷ [] } → IsWatching task q before
    → IsTakenBack (length p.values) before after → IsWatching task p after
watching_back task p q v before after is h t =
    let was = subst (λ x. IsWatching task x before) is h in
    record {
      cells = t.cells ∙ was.cells;
      instances = was.instances;
      are = was.are;
      watched = are_taken task.clauses was.instances p after.watches t.gone t.deeper
          (are_front task.clauses was.instances p.cells p.values v (after.watches ++ t.gone) (subst (AreWatched task.clauses was.instances (record { cells = p.cells; values = p.values ++ v ∷ [] })) t.watches was.watched));
    }

-- what a value was put behind is what is left without it
abbrev front_of : List ℕ → List ℕ
front_of [] = []
front_of (x ∷ []) = []
front_of (x ∷ y ∷ ys) = x ∷ front_of (y ∷ ys)

front_push : (xs : List ℕ) (v : ℕ) → front_of (xs ++ v ∷ []) ≡ xs
front_push [] v = refl
front_push (x ∷ []) v = refl
front_push (x ∷ y ∷ ys) v = ap (λ zs. x ∷ zs) (front_push (y ∷ ys) v)

pub same_front : (p q r : Prefix) (v w : ℕ) → r ≡ record { cells = p.cells; values = p.values ++ v ∷ [] } → r ≡ record { cells = q.cells; values = q.values ++ w ∷ [] } → p ≡ q
same_front p q r v w one two =
    let cells : p.cells ≡ q.cells = ap (λ (x : Prefix). x.cells) (sym one ∙ two) in
    let values : p.values ≡ q.values = sym (front_push p.values v) ∙ ap (λ (x : Prefix). front_of x.values) (sym one ∙ two) ∙ front_push q.values w in
    λ i. record { cells = cells i; values = values i }

pub watching_kept : (task : Task) (p : Prefix) (before after : Board) → IsWatching task p before → IsTakenBack (length p.values) before after → IsWatching task p after
watching_kept task p before after h t = record {
  cells = t.cells ∙ h.cells;
  instances = h.instances;
  are = h.are;
  watched = are_taken task.clauses h.instances p after.watches t.gone t.deeper (subst (AreWatched task.clauses h.instances p) t.watches h.watched);
}
