-- A full list whose next value is greater than the bound: the two elements exchanged, it has the bound there, and the
-- same values before.
use Rattle.std.proofs.Common.{◌≡◌, ◌∙◌, sym, ap, subst, refl, ℕ, zero, suc, ◌+◌, ◌-◌, ◌<◌, inl, inr, Bool, true, false, if◌then◌else◌, List, [], ◌∷◌, ◌++◌, length, map, max, min, fold, get_or, slice_get, Option, Some, None, arith}
use Rattle.std.specs.Prelude.{unwrap_or}
use Rattle.std.specs.List.{All, AllZip, AllPairs, AllByRecursion}
use Rattle.std.proofs.lemmas.Bool.{cases_order}
use Rattle.std.proofs.lemmas.List.{length-map, length-append, append_assoc, take_all}
use Rattle.std.proofs.lemmas.Option.{slice_get_within, slice_get-get_or, get_or_from_slice_get}
use Rattle.sc_term.specs.Term.{largest}
use Rattle.sc_term.specs.declared.SymId.{SymId}
use Rattle.sc_term.specs.declared.Clause.{Clause}
use Rattle.sc_term.specs.declared.symbol.Role.{Role}
use Rattle.sc_term.specs.declared.symbol.Role.TheVariants.{Function, Predicate}
use Rattle.sc_term.specs.declared.symbol.Symbol.{Symbol}
use Rattle.sc_term.proofs.SubstitutionLaws.{all_split}
use Rattle.sc_input_rules.specs.WellFormed.{IsOver}
use Rattle.sc_interp.specs.Structure.{values_below as entries_below}
use Rattle.sc_cells.specs.Order.{IsBefore}
use Rattle.sc_cells.specs.Cells.{Entry, AreCells, cell_numbers, below_of, values_below, is_cell_of, given_among}
use Rattle.sc_least.specs.Bound.{used_as, used_by, used_by_value, used, first_unused, bound_as, bound_by, bound_of, least_number}
use Rattle.sc_least.specs.Full.{IsFull, BeginsWithinBound, FirstIsWithinBound, NoneWithinBoundMeansNone}
use Rattle.sc_least.proofs.ExchangeLaws.{exchanged, exchange_first, exchange_twice, exchange_below, exchange_less, exchange_all_less}
use Rattle.sc_least.proofs.PermutedLaws.{none_is_not, cell_is, is_itself, moved_as, moved_by, permuted_values, permuted_consistent}

-- ---- the value of a cell is found at its place

never_before_itself : (ns : List ℕ) → ¬ IsBefore ns ns
never_before_itself [] h = h
never_before_itself (n ∷ ns) h = elim h [
  | inl less ↦ omega (arith, less)
  | inr same ↦ never_before_itself ns same.1
]

abbrev Precedes : Entry → Entry → Type 0
Precedes x y = IsBefore (cell_numbers x) (cell_numbers y)

rest_rising : (c : Entry) (cs : List Entry) → AllPairs Precedes (c ∷ cs) → AllPairs Precedes cs
rest_rising c cs h i j d lt within = h (suc i) (suc j) d (omega (arith, lt)) (omega (arith, within))

given_here : (cells : List Entry) (values : List ℕ) (k : ℕ) (cell : Entry) (v : ℕ) → AllPairs Precedes cells → slice_get cells k ≡ Some cell → slice_get values k ≡ Some v
    → given_among (record { 0 = cell.symbol }) cell.indices cells values ≡ Some v
given_here [] values k cell v rising at has = none_is_not cell at
given_here (c ∷ cs) [] k cell v rising at has = none_is_not v has
given_here (c ∷ cs) (w ∷ ws) zero cell v rising at has =
    let same : c ≡ cell = cc in
    let value : w ≡ v = cc in
    let f : SymId = record { 0 = cell.symbol } in
    let found : is_cell_of f cell.indices c ≡ true = ap (is_cell_of f cell.indices) same ∙ is_itself f cell.indices in
    ap (λ b. if b then Some w else given_among f cell.indices cs ws) found ∙ ap (λ (n : ℕ). Some n) value
given_here (c ∷ cs) (w ∷ ws) (suc k) cell v rising at has =
    by (is_cell_of (record { 0 = cell.symbol }) cell.indices c) refl (given_here cs ws k cell v (rest_rising c cs rising) at has)
  where
    by : (b : Bool) → is_cell_of (record { 0 = cell.symbol }) cell.indices c ≡ b → given_among (record { 0 = cell.symbol }) cell.indices cs ws ≡ Some v
        → given_among (record { 0 = cell.symbol }) cell.indices (c ∷ cs) (w ∷ ws) ≡ Some v
    by true e rest =
        let f : SymId = record { 0 = cell.symbol } in
        let first : c ≡ cell = cell_is f cell.indices c e in
        let within = slice_get_within cs k cell at in
        let before : IsBefore (cell_numbers c) (cell_numbers (get_or cs k cell)) = rising 0 (suc k) cell (omega arith) (omega (arith, within)) in
        let itself : IsBefore (cell_numbers cell) (cell_numbers cell)
        = subst (λ x. IsBefore (cell_numbers x) (cell_numbers cell)) first (subst (λ y. IsBefore (cell_numbers c) (cell_numbers y)) (get_or_from_slice_get cs k cell cell at) before) in
        absurd (never_before_itself (cell_numbers cell) itself)
    by false e rest = ap (λ b. if b then Some w else given_among (record { 0 = cell.symbol }) cell.indices cs ws) e ∙ rest

-- ---- what is used

module _ (P : ℕ → Type 0) (sig : List Symbol) where
  used_there : (cells : List Entry) (front : List ℕ) (j : ℕ) (cell : Entry) (v : ℕ) → AllByRecursion P (used sig cells front) → slice_get cells j ≡ Some cell → slice_get front j ≡ Some v
      → AllByRecursion P cell.indices × AllByRecursion P (used_by_value sig cell v)
  used_there [] front j cell v h at has = none_is_not cell at
  used_there (c ∷ cs) [] j cell v h at has = none_is_not v has
  used_there (c ∷ cs) (w ∷ ws) zero cell v h at has =
      let same : c ≡ cell = cc in
      let value : w ≡ v = cc in
      let one = all_split P c.indices (used_by_value sig c w ++ used sig cs ws) h in
      let two = all_split P (used_by_value sig c w) (used sig cs ws) one.1 in (
        subst (λ (x : Entry). AllByRecursion P x.indices) same one.0,
        subst (λ n. AllByRecursion P (used_by_value sig cell n)) value (subst (λ (x : Entry). AllByRecursion P (used_by_value sig x w)) same two.0),
      )
  used_there (c ∷ cs) (w ∷ ws) (suc j) cell v h at has =
      let one = all_split P c.indices (used_by_value sig c w ++ used sig cs ws) h in
      let two = all_split P (used_by_value sig c w) (used sig cs ws) one.1 in
      used_there cs ws j cell v two.1 at has

  used_next : (cells : List Entry) (front : List ℕ) (cell : Entry) → AllByRecursion P (used sig cells front) → slice_get cells (length front) ≡ Some cell → AllByRecursion P cell.indices
  used_next [] front cell h at = none_is_not cell at
  used_next (c ∷ cs) [] cell h at = let same : c ≡ cell = cc in subst (λ (x : Entry). AllByRecursion P x.indices) same h
  used_next (c ∷ cs) (w ∷ ws) cell h at =
      let one = all_split P c.indices (used_by_value sig c w ++ used sig cs ws) h in
      let two = all_split P (used_by_value sig c w) (used sig cs ws) one.1 in
      used_next cs ws cell two.1 at

-- each is less than what all are less than
each_less : (a : ℕ) (ns : List ℕ) (m x : ℕ) → fold max a ns < m → m < x → (a < m) × AllByRecursion (λ n. (n < x) × (n < m)) ns
each_less a [] m x h less = (h, tt)
each_less a (n ∷ ns) m x h less =
    let rest = each_less (max a n) ns m x h less in
    let first = rest.0 in
    (omega (arith, first), ((omega (arith, first, less), omega (arith, first)), rest.1))

unused_less : (size : ℕ) (es : List ℕ) (x : ℕ) → first_unused size es < x → x < size → AllByRecursion (λ n. (n < x) × (n < first_unused size es)) es
unused_less size [] x h k = tt
unused_less size (e ∷ es) x h k =
    let least : largest (e ∷ es) < min (size - 1) (1 + largest (e ∷ es)) = omega (arith, h, k) in
    (each_less 0 (e ∷ es) (min (size - 1) (1 + largest (e ∷ es))) x least h).1

-- ---- the next cell's value is greater than its bound

pub record IsBeyond (size : ℕ) (o : Option Symbol) (es : List ℕ) (x : ℕ) : Type 0 where
  pub bound_is : bound_by o size es ≡ first_unused size es
  pub element : x < size
  pub moves : (swap : ℕ → ℕ) (v : ℕ) → moved_by swap o v ≡ swap v

is_beyond : (size : ℕ) (o : Option Symbol) (es : List ℕ) (x : ℕ) → bound_by o size es < x → x < below_of size o → IsBeyond size o es x
is_beyond size None es x h k = absurd (omega (arith, k))
is_beyond size (Some s) es x h k = by s.role refl h k
  where
    by : (r : Role) → s.role ≡ r → bound_as r size es < x → x < entries_below r size → IsBeyond size (Some s) es x
    by Function e h k = record {
      bound_is = ap (λ r. bound_as r size es) e;
      element = k;
      moves = λ swap v. ap (λ r. moved_as swap r v) e;
    }
    by Predicate e h k = absurd (omega (arith, h, k))

stays_put : (a b : ℕ) (o : Option Symbol) (v : ℕ) → AllByRecursion (λ n. (n < a) × (n < b)) (used_by o v) → moved_by (exchanged a b) o v ≡ v
stays_put a b None v h = refl
stays_put a b (Some s) v h = by s.role h
  where
    by : (r : Role) → AllByRecursion (λ n. (n < a) × (n < b)) (used_as r v) → moved_as (exchanged a b) r v ≡ v
    by Function h = exchange_less a b v h.0.0 h.0.1
    by Predicate h = refl

at_front : (front : List ℕ) (x : ℕ) (rest : List ℕ) → slice_get (front ++ x ∷ rest) (length front) ≡ Some x
at_front [] x rest = refl
at_front (w ∷ ws) x rest = at_front ws x rest

in_front : (front more : List ℕ) (j v : ℕ) → slice_get front j ≡ Some v → slice_get (front ++ more) j ≡ Some v
in_front [] more j v e = none_is_not v e
in_front (w ∷ ws) more zero v e = e
in_front (w ∷ ws) more (suc j) v e = in_front ws more j v e

value_at : (R : Entry → ℕ → Type 0) (cells : List Entry) (values : List ℕ) (k : ℕ) (cell : Entry) (v : ℕ) → AllZip R cells values → slice_get cells k ≡ Some cell → slice_get values k ≡ Some v → R cell v
value_at R [] values k cell v h at has = none_is_not cell at
value_at R (c ∷ cs) [] k cell v h at has = absurd h
value_at R (c ∷ cs) (w ∷ ws) zero cell v h at has =
    let same : c ≡ cell = cc in
    let value : w ≡ v = cc in
    subst (R cell) value (subst (λ x. R x w) same h.0)
value_at R (c ∷ cs) (w ∷ ws) (suc k) cell v h at has = value_at R cs ws k cell v h.1 at has

made_front : (h : Entry → ℕ) (cells : List Entry) (front : List ℕ) (m : ℕ) → ((j : ℕ) (c : Entry) (v : ℕ) → slice_get cells j ≡ Some c → slice_get front j ≡ Some v → h c ≡ v)
    → (cell : Entry) → slice_get cells (length front) ≡ Some cell → h cell ≡ m → (more : List ℕ) × (map h cells ≡ front ++ m ∷ more)
made_front h [] front m each cell at e = none_is_not cell at
made_front h (c ∷ cs) [] m each cell at e = let same : c ≡ cell = cc in let first : h c ≡ m = ap h same ∙ e in (map h cs, λ i. first i ∷ map h cs)
made_front h (c ∷ cs) (w ∷ ws) m each cell at e =
    let first : h c ≡ w = each 0 c w refl refl in
    let more = made_front h cs ws m (λ j d v one two. each (suc j) d v one two) cell at e in
    (more.0, λ i. first i ∷ more.1 i)

module _ (sig : List Symbol) (clauses : List Clause) (size : ℕ) (cells : List Entry) (are : AreCells sig size cells) (over : All (IsOver sig) clauses) where
  -- the first of the elements that aren't used in place of a greater one
  module _ (front rest : List ℕ) (x : ℕ) (full : IsFull sig clauses size cells (front ++ x ∷ rest)) (cell : Entry) (at : slice_get cells (length front) ≡ Some cell)
      (beyond : IsBeyond size (slice_get sig cell.symbol) (used sig cells front) x) (less : first_unused size (used sig cells front) < x) where
    m : ℕ
    m = first_unused size (used sig cells front)

    values : List ℕ
    values = front ++ x ∷ rest

    fixed : AllByRecursion (λ n. (n < x) × (n < first_unused size (used sig cells front))) (used sig cells front)
    fixed = unused_less size (used sig cells front) x less beyond.element

    within : (n : ℕ) → n < size → exchanged x (first_unused size (used sig cells front)) n < size
    within n lt = let element = beyond.element in exchange_below x (first_unused size (used sig cells front)) n size element (omega (arith, less, element)) lt

    abbrev swap : ℕ → ℕ
    swap = exchanged x (first_unused size (used sig cells front))

    abbrev new_value : Entry → ℕ
    new_value c = moved_by swap (slice_get sig c.symbol) (unwrap_or (given_among (record { 0 = c.symbol }) (map swap c.indices) cells (front ++ x ∷ rest)) 0)

    found : (j : ℕ) (c : Entry) (v : ℕ) → slice_get cells j ≡ Some c → slice_get (front ++ x ∷ rest) j ≡ Some v → map swap c.indices ≡ c.indices
        → new_value c ≡ moved_by swap (slice_get sig c.symbol) v
    found j c v here has same =
        ap (λ ns. moved_by swap (slice_get sig c.symbol) (unwrap_or (given_among (record { 0 = c.symbol }) ns cells (front ++ x ∷ rest)) 0)) same
        ∙ ap (λ o. moved_by swap (slice_get sig c.symbol) (unwrap_or o 0)) (given_here cells (front ++ x ∷ rest) j c v are.rising here has)

    before : (j : ℕ) (c : Entry) (v : ℕ) → slice_get cells j ≡ Some c → slice_get front j ≡ Some v → new_value c ≡ v
    before j c v here has =
        let parts = used_there (λ n. (n < x) × (n < first_unused size (used sig cells front))) sig cells front j c v fixed here has in
        found j c v here (in_front front (x ∷ rest) j v has) (exchange_all_less x (first_unused size (used sig cells front)) c.indices parts.0)
        ∙ stays_put x (first_unused size (used sig cells front)) (slice_get sig c.symbol) v parts.1

    next : new_value cell ≡ first_unused size (used sig cells front)
    next =
        let indices = used_next (λ n. (n < x) × (n < first_unused size (used sig cells front))) sig cells front cell fixed at in
        found (length front) cell x at (at_front front x rest) (exchange_all_less x (first_unused size (used sig cells front)) cell.indices indices)
        ∙ beyond.moves swap x ∙ exchange_first x (first_unused size (used sig cells front))

    pub exchange_gives : (more : List ℕ) × IsFull sig clauses size cells (front ++ first_unused size (used sig cells front) ∷ more)
    exchange_gives =
        let twice = exchange_twice x (first_unused size (used sig cells front)) in
        let made = made_front new_value cells front (first_unused size (used sig cells front)) before cell at next in
        let long = full.many in
        let range : AllZip (λ cell v. v < values_below sig size cell) cells (front ++ x ∷ rest)
        = subst (λ cs. AllZip (λ cell v. v < values_below sig size cell) cs (front ++ x ∷ rest)) (take_all (length (front ++ x ∷ rest)) cells (omega (arith, long))) full.in_range in
        let all : IsFull sig clauses size cells (map new_value cells) = record {
          many = length-map cells new_value;
          in_range = permuted_values sig size cells are swap twice within (front ++ x ∷ rest) full.many range;
          consistent = permuted_consistent sig size cells are swap twice within (front ++ x ∷ rest) full.many clauses over full.consistent;
        } in
        (made.0, subst (IsFull sig clauses size cells) made.1 all)

  pub beyond_bound : (front rest : List ℕ) (x : ℕ) → IsFull sig clauses size cells (front ++ x ∷ rest) → least_number sig size cells front < x
      → (more : List ℕ) × IsFull sig clauses size cells (front ++ least_number sig size cells front ∷ more)
  beyond_bound front rest x full more_than =
      let some : Entry = record { symbol = 0; indices = [] } in
      let cell = get_or cells (length front) some in
      let long = full.many in
      let joined = length-append front (x ∷ rest) in
      let at : slice_get cells (length front) ≡ Some cell = slice_get-get_or cells (length front) some (omega (arith, long, joined)) in
      let range : AllZip (λ cell v. v < values_below sig size cell) cells (front ++ x ∷ rest)
      = subst (λ cs. AllZip (λ cell v. v < values_below sig size cell) cs (front ++ x ∷ rest)) (take_all (length (front ++ x ∷ rest)) cells (omega (arith, long))) full.in_range in
      let below = value_at (λ cell v. v < values_below sig size cell) cells (front ++ x ∷ rest) (length front) cell x range at (at_front front x rest) in
      let bound : least_number sig size cells front ≡ bound_by (slice_get sig cell.symbol) size (used sig cells front) = ap (λ o. bound_of sig size o (used sig cells front)) at in
      let beyond = is_beyond size (slice_get sig cell.symbol) (used sig cells front) x (subst (λ n. n < x) bound more_than) below in
      let same : least_number sig size cells front ≡ first_unused size (used sig cells front) = bound ∙ beyond.bound_is in
      let gives = exchange_gives front rest x full cell at beyond (subst (λ n. n < x) same more_than) in
      (gives.0, subst (λ n. IsFull sig clauses size cells (front ++ n ∷ gives.0)) (sym same) gives.1)

-- ---- the laws

pub begins_within : BeginsWithinBound
begins_within sig clauses size cells front [] are over shorter full =
    let long = full.many in
    let joined = length-append front (let none : List ℕ = [] in none) in
    absurd (omega (arith, shorter, long, joined))
begins_within sig clauses size cells front (x ∷ rest) are over shorter full = elim (cases_order x (least_number sig size cells front)) [
  | inl same ↦ (x, rest, omega (arith, same), full)
  | inr other ↦ elim other [
    | inl less ↦ (x, rest, omega (arith, less), full)
    | inr greater ↦
        let more = beyond_bound sig clauses size cells are over front rest x full greater in
        (least_number sig size cells front, more.0, omega arith, more.1)
  ]
]

comes_before : (front more rest : List ℕ) (a b : ℕ) → a < b → IsBefore (front ++ a ∷ more) (front ++ b ∷ rest)
comes_before [] more rest a b less = inl less
comes_before (w ∷ ws) more rest a b less = inr (refl, comes_before ws more rest a b less)

pub first_within : FirstIsWithinBound
first_within sig clauses size cells fixed front rest v are over full least = elim (cases_order v (least_number sig size cells (fixed ++ front))) [
  | inl same ↦ omega (arith, same)
  | inr other ↦ elim other [
    | inl less ↦ omega (arith, less)
    | inr greater ↦
        let given = subst (IsFull sig clauses size cells) (sym (append_assoc fixed front (v ∷ rest))) full in
        let bound = least_number sig size cells (fixed ++ front) in
        let more = beyond_bound sig clauses size cells are over (fixed ++ front) rest v given greater in
        let smaller = subst (IsFull sig clauses size cells) (append_assoc fixed front (bound ∷ more.0)) more.1 in
        absurd (least (front ++ bound ∷ more.0) smaller (comes_before front more.0 rest bound v greater))
  ]
]

pub none_within : NoneWithinBoundMeansNone
none_within sig clauses size cells front rest are over shorter none full =
    let one = begins_within sig clauses size cells front rest are over shorter full in
    none one.0 one.1 one.2 one.3
