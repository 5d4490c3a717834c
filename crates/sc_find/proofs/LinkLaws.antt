-- Watches that are linked from the latest on, as one is added and taken away.
use Rattle.std.proofs.Common.{◌≡◌, ◌∙◌, sym, ap, subst, refl, ℕ, zero, suc, ◌+◌, ◌<◌, ◌≤◌, ◌⊎◌, inl, inr, List, [], ◌∷◌, ◌++◌, length, slice_get, slice_set, Option, Some, None, arith}
use Rattle.std.proofs.lemmas.List.{append-nil, append_assoc, length_push}
use Rattle.std.proofs.lemmas.List.Elements.{All-cons}
use Rattle.std.proofs.lemmas.Option.{slice_get_within}
use Rattle.sc_find_given.proofs.NumberLaws.{get_set_same, get_set_other}
use Rattle.sc_find.specs.declared.watch.Watch.{Watch}
use Rattle.sc_find.specs.Linked.{Board, IsLatest, AreLinked}
use Rattle.sc_find.specs.Watching.{IsTakenBack}

pub front_at : {A : Type 0} (xs ys : List A) (n : ℕ) → n < length xs → slice_get (xs ++ ys) n ≡ slice_get xs n
front_at [] ys n lt = absurd (omega (arith, lt))
front_at (x ∷ xs) ys zero lt = refl
front_at (x ∷ xs) ys (suc n) lt = front_at xs ys n (omega (arith, lt))

pub last_at : {A : Type 0} (xs : List A) (x : A) → slice_get (xs ++ x ∷ []) (length xs) ≡ Some x
last_at [] x = refl
last_at (y ∷ ys) x = last_at ys x

same_some : {A : Type 0} (x y : A) → ◌≡◌ {A = Option A} (Some x) (Some y) → x ≡ y
same_some x y e = cc

pub same_or_other : (m n : ℕ) → (m ≡ n) ⊎ ¬ (m ≡ n)
same_or_other zero zero = inl refl
same_or_other zero (suc n) = inr (λ e. omega (arith, e))
same_or_other (suc m) zero = inr (λ e. omega (arith, e))
same_or_other (suc m) (suc n) = elim (same_or_other m n) [
  | inl same ↦ inl (ap suc same)
  | inr other ↦ inr (λ e. other (omega (arith, e)))
]

pub set_long : {A : Type 0} (xs : List A) (i : ℕ) (x : A) → length (slice_set xs i x) ≡ length xs
set_long [] i x = refl
set_long (y ∷ ys) zero x = refl
set_long (y ∷ ys) (suc i) x = ap suc (set_long ys i x)

each_more : {A : Type 0} (P : ℕ → A → Type 0) (xs : List A) (x : A) → ((k : ℕ) (y : A) → slice_get xs k ≡ Some y → P k y) → P (length xs) x
    → (k : ℕ) (y : A) → slice_get (xs ++ x ∷ []) k ≡ Some y → P k y
each_more {A} P [] x h here zero y at = let same : x ≡ y = cc in subst (P 0) same here
each_more {A} P [] x h here (suc k) y at = let none : ◌≡◌ {A = Option A} None (Some y) = at in absurd cc
each_more P (z ∷ xs) x h here zero y at = h 0 y at
each_more P (z ∷ xs) x h here (suc k) y at = each_more (λ j. P (suc j)) xs x (λ j w e. h (suc j) w e) here k y at

-- ---- more watches, and fewer

pub latest_more : (ws added : List Watch) (many cell at : ℕ) → many ≤ length ws → IsLatest ws many cell at → IsLatest (ws ++ added) many cell at
latest_more ws added many cell at few h = record {
  within = h.within;
  here = λ n w e is. h.here n w e (sym (front_at ws added n (omega (arith, few, h.within, e))) ∙ is);
  after = λ n w from to is. h.after n w from to (sym (front_at ws added n (omega (arith, few, to))) ∙ is);
}

pub latest_less : (ws added : List Watch) (many cell at : ℕ) → many ≤ length ws → IsLatest (ws ++ added) many cell at → IsLatest ws many cell at
latest_less ws added many cell at few h = record {
  within = h.within;
  here = λ n w e is. h.here n w e (front_at ws added n (omega (arith, few, h.within, e)) ∙ is);
  after = λ n w from to is. h.after n w from to (front_at ws added n (omega (arith, few, to)) ∙ is);
}

pub none_linked : (latest : List ℕ) → ((cell at : ℕ) → slice_get latest cell ≡ Some at → at ≡ 0) → AreLinked latest []
none_linked latest zeros = record {
  cells = λ n w is. absurd (omega (arith, slice_get_within [] n w is));
  next = λ n w is. absurd (omega (arith, slice_get_within [] n w is));
  all = λ cell at is. let none = zeros cell at is in record {
    within = omega (arith, none);
    here = λ n w e there. absurd (omega (arith, none, e));
    after = λ n w from to there. absurd (omega (arith, to));
  };
}

module _ (latest : List ℕ) (ws : List Watch) (linked : AreLinked latest ws) where
  pub added_linked : (w : Watch) → slice_get latest w.cell ≡ Some w.next → AreLinked (slice_set latest w.cell (length (ws ++ w ∷ []))) (ws ++ w ∷ [])
  added_linked w was = record {
    cells = each_more (λ k y. y.cell < length new) ws w (λ n y is. omega (arith, linked.cells n y is, long)) (omega (arith, slice_get_within latest w.cell w.next was, long));
    next = each_more (λ k y. IsLatest more k y.cell y.next) ws w
        (λ n y is. latest_more ws (w ∷ []) n y.cell y.next (omega (arith, slice_get_within ws n y is)) (linked.next n y is))
        (latest_more ws (w ∷ []) (length ws) w.cell w.next (omega arith) (linked.all w.cell w.next was));
    all = λ cell at is. elim (same_or_other w.cell cell) [
      | inl same ↦ itself cell at same (same_some (length more) at (sym (get_set_same latest w.cell (length more) w.next was) ∙ ap (slice_get new) same ∙ is))
      | inr other ↦ old cell at other (linked.all cell at (sym (get_set_other latest w.cell cell (length more) other) ∙ is))
    ];
  }
    where
      more : List Watch
      more = ws ++ w ∷ []

      new : List ℕ
      new = slice_set latest w.cell (length (ws ++ w ∷ []))

      long : length (slice_set latest w.cell (length (ws ++ w ∷ []))) ≡ length latest
      long = set_long latest w.cell (length (ws ++ w ∷ []))

      count : length (ws ++ w ∷ []) ≡ length ws + 1
      count = length_push ws w

      itself : (cell at : ℕ) → w.cell ≡ cell → length (ws ++ w ∷ []) ≡ at → IsLatest (ws ++ w ∷ []) (length (ws ++ w ∷ [])) cell at
      itself cell at same is = record {
        within = omega (arith, is);
        here = λ n y e there.
            let last : n ≡ length ws = omega (arith, e, is, count) in
            let y_is : w ≡ y = same_some w y (sym (last_at ws w) ∙ ap (slice_get (ws ++ w ∷ [])) (sym last) ∙ there) in
            sym (ap (λ (x : Watch). x.cell) y_is) ∙ same;
        after = λ n y from to there. absurd (omega (arith, from, to, is));
      }

      old : (cell at : ℕ) → ¬ (w.cell ≡ cell) → IsLatest ws (length ws) cell at → IsLatest (ws ++ w ∷ []) (length (ws ++ w ∷ [])) cell at
      old cell at other h = record {
        within = omega (arith, h.within, count);
        here = λ n y e there. h.here n y e (sym (front_at ws (w ∷ []) n (omega (arith, h.within, e))) ∙ there);
        after = λ n y from to there. each_more (λ k x. at ≤ k → ¬ (x.cell ≡ cell)) ws w
            (λ k x is le. h.after k x le (slice_get_within ws k x is) is) (λ le. other) n y there from;
      }

pub dropped_linked : (latest : List ℕ) (ws : List Watch) (w : Watch) → AreLinked latest (ws ++ w ∷ []) → AreLinked (slice_set latest w.cell w.next) ws
dropped_linked latest ws w linked = record {
  cells = λ n y is. omega (arith, linked.cells n y (there n y is), long);
  next = λ n y is. latest_less ws (w ∷ []) n y.cell y.next (omega (arith, slice_get_within ws n y is)) (linked.next n y (there n y is));
  all = λ cell at is. elim (same_or_other w.cell cell) [
    | inl same ↦ itself cell at same is
    | inr other ↦ old cell at other (linked.all cell at (sym (get_set_other latest w.cell cell w.next other) ∙ is))
  ];
}
  where
    long : length (slice_set latest w.cell w.next) ≡ length latest
    long = set_long latest w.cell w.next

    count : length (ws ++ w ∷ []) ≡ length ws + 1
    count = length_push ws w

    there : (n : ℕ) (y : Watch) → slice_get ws n ≡ Some y → slice_get (ws ++ w ∷ []) n ≡ Some y
    there n y is = front_at ws (w ∷ []) n (slice_get_within ws n y is) ∙ is

    before : (n : ℕ) (xs : List ℕ) → n < length xs → (at : ℕ) × (slice_get xs n ≡ Some at)
    before n [] lt = absurd (omega (arith, lt))
    before zero (x ∷ xs) lt = (x, refl)
    before (suc n) (x ∷ xs) lt = before n xs (omega (arith, lt))

    itself : (cell at : ℕ) → w.cell ≡ cell → slice_get (slice_set latest w.cell w.next) cell ≡ Some at → IsLatest ws (length ws) cell at
    itself cell at same is =
        let was = before w.cell latest (linked.cells (length ws) w (last_at ws w)) in
        let next : w.next ≡ at = same_some w.next at (sym (get_set_same latest w.cell w.next was.0 was.1) ∙ ap (slice_get (slice_set latest w.cell w.next)) same ∙ is) in
        subst (λ c. IsLatest ws (length ws) c at) same (subst (IsLatest ws (length ws) w.cell) next
        (latest_less ws (w ∷ []) (length ws) w.cell w.next (omega arith) (linked.next (length ws) w (last_at ws w))))

    old : (cell at : ℕ) → ¬ (w.cell ≡ cell) → IsLatest (ws ++ w ∷ []) (length (ws ++ w ∷ [])) cell at → IsLatest ws (length ws) cell at
    old cell at other h = record {
      within = elim (same_or_other at (length ws + 1)) [
        | inl all ↦ absurd (other (h.here (length ws) w all (last_at ws w)))
        | inr less ↦ omega (arith, h.within, count, less)
      ];
      here = λ n y e is. h.here n y e (there n y is);
      after = λ n y from to is. h.after n y from (omega (arith, to, count)) (there n y is);
    }

-- ---- taking away

pub taken_none : (depth : ℕ) (board : Board) → IsTakenBack depth board board
taken_none depth board = record { cells = refl; gone = []; watches = sym (append-nil board.watches); deeper = λ k d lt. absurd (omega (arith, lt)) }

pub taken_more : (depth : ℕ) (a b c : Board) (front : List Watch) (w : Watch) → IsTakenBack depth a b → b.watches ≡ front ++ w ∷ [] → depth < w.depth → c ≡ record { cells = b.cells; watches = front }
    → IsTakenBack depth a c
taken_more depth a b c front w h is deeper gives = record {
  cells = ap (λ (x : Board). x.cells) gives ∙ h.cells;
  gone = w ∷ h.gone;
  watches = h.watches ∙ ap (λ ws. ws ++ h.gone) is ∙ append_assoc front (w ∷ []) h.gone ∙ ap (λ ws. ws ++ w ∷ h.gone) (sym (ap (λ (x : Board). x.watches) gives));
  deeper = All-cons (λ (x : Watch). depth < x.depth) w h.gone deeper h.deeper;
}
