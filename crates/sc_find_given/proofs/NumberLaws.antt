-- Cells numbered in rows, one after another.
use Rattle.std.proofs.Common.{◌≡◌, ◌≢◌, ◌∙◌, sym, ap, subst, refl, ℕ, zero, suc, ◌+◌, ◌-◌, ◌^◌, ◌<◌, ◌≤◌, ◌==◌, ◌⊎◌, inl, inr, true≢false, Bool, true, false, ◌&&◌, if◌then◌else◌, List, [], ◌∷◌, ◌++◌, map, take, drop, length, replicate, get_or, nat_eq, nat_lt, Option, Some, None, IsSomeAnd, slice_get, slice_set, arith}
use Rattle.std.specs.List.{All, AllByRecursion, list_all}
use Rattle.std.specs.Option.{option_map}
use Rattle.std.proofs.lemmas.Bool.{eqb-true, eqb-false, eq-eqb, ltb-true, lt-ltb, cases_eq}
use Rattle.std.proofs.lemmas.Option.{slice_get_within, get_or_from_slice_get, slice_get-map}
use Rattle.std.proofs.lemmas.List.{length-set, length-replicate, map-append}
use Rattle.std.proofs.lemmas.List.Elements.{All-from_recursion, recursion_from_All}
use Rattle.sc_term.specs.declared.SymId.{SymId}
use Rattle.sc_term.specs.Numbering.{numbered}
use Rattle.sc_term.specs.declared.symbol.Symbol.{Symbol}
use Rattle.sc_interp.specs.Structure.{place_of}
use Rattle.sc_interp.proofs.Symbols.{mapped_behind}
use Rattle.sc_cells.specs.declared.cells.Cell.{Cell}
use Rattle.sc_cells.specs.Order.{IsBefore}
use Rattle.sc_cells.specs.Cells.{Entry, IsCell, AreCells, cell_at, cell_numbers, is_cell_of}
use Rattle.sc_find_given.specs.declared.row.Row.{Row}
use Rattle.sc_find_given.specs.declared.slot.Slot.{Slot}
use Rattle.sc_find_given.specs.Lookup.{place_in, number_in, number_for}
use Rattle.sc_find_given.specs.Keeping.{entry_of, slot_entries, AreIndexed}
use Rattle.sc_find_given.specs.Numbering.{blank_row, Fits, HasRow, HaveRows, AreBlank, AreApart, AreNumbered, with_number_in}
use Rattle.sc_find_given.proofs.PlaceLaws.{same_place, place_below}
use Rattle.sc_find_given.proofs.LookupLaws.{one_more}
use Rattle.sc_find_given.proofs.GivenLaws.{cell_of, is_cell, its_cell}

-- ---- writes

pub get_set_same : {X : Type 0} (xs : List X) (i : ℕ) (x y : X) → slice_get xs i ≡ Some y → slice_get (slice_set xs i x) i ≡ Some x
get_set_same [] i x y e = cc
get_set_same (z ∷ zs) zero x y e = refl
get_set_same (z ∷ zs) (suc i) x y e = get_set_same zs i x y e

pub get_set_other : {X : Type 0} (xs : List X) (i j : ℕ) (x : X) → ¬ (i ≡ j) → slice_get (slice_set xs i x) j ≡ slice_get xs j
get_set_other [] i j x h = refl
get_set_other (z ∷ zs) zero zero x h = absurd (h refl)
get_set_other (z ∷ zs) zero (suc j) x h = refl
get_set_other (z ∷ zs) (suc i) zero x h = refl
get_set_other (z ∷ zs) (suc i) (suc j) x h = get_set_other zs i j x (λ e. h (ap suc e))

there_is : {X : Type 0} (xs : List X) (i : ℕ) → i < length xs → (x : X) × (slice_get xs i ≡ Some x)
there_is [] i h = absurd (omega arith)
there_is (x ∷ xs) zero h = (x, refl)
there_is (x ∷ xs) (suc i) h = there_is xs i (omega arith)

-- ---- elements

all_below : (size : ℕ) (ns : List ℕ) → AllByRecursion (λ n. n < size) ns → list_all (λ v. nat_lt v size) ns ≡ true
all_below size [] h = refl
all_below size (n ∷ ns) h = (λ i. lt-ltb n size h.0 i && list_all (λ v. nat_lt v size) ns) ∙ all_below size ns h.1

below_all : (size : ℕ) (ns : List ℕ) → list_all (λ v. nat_lt v size) ns ≡ true → AllByRecursion (λ n. n < size) ns
below_all size [] e = tt
below_all size (n ∷ ns) e = by (nat_lt n size) refl e (below_all size ns)
  where
    by : (b : Bool) → nat_lt n size ≡ b → (b && list_all (λ v. nat_lt v size) ns) ≡ true
        → (list_all (λ v. nat_lt v size) ns ≡ true → AllByRecursion (λ n. n < size) ns) → AllByRecursion (λ n. n < size) (n ∷ ns)
    by true f g more = (ltb-true n size f, more g)
    by false f g more = cc

-- ---- one number

pub place_is : (size : ℕ) (args : List ℕ) → All (λ n. n < size) args → place_in size (Some args) ≡ Some (place_of size args)
place_is size args h = ap (λ b. if b then Some (place_of size args) else None) (all_below size args (recursion_from_All (λ n. n < size) args h))

-- a number stands within the row of a cell that fits
place_within : (size : ℕ) (cell : Entry) (row : Row) → Fits size cell row → All (λ i. i < size) cell.indices → place_of size cell.indices < length row.numbers
place_within size cell row fits elements =
    let small = place_below size cell.indices elements in
    let power : size ^ length cell.indices ≡ size ^ row.arity = ap (λ n. size ^ n) fits.long in
    omega (arith, small, power, fits.many)

abbrev written : ℕ → Entry → Row → ℕ → Row
written size cell row n = record row { numbers = slice_set row.numbers (place_of size cell.indices) n }

row_hit : (size : ℕ) (cell : Entry) (row : Row) (n : ℕ) → Fits size cell row → All (λ i. i < size) cell.indices
    → number_in (Some (written size cell row n)) (length cell.indices) (place_in size (Some cell.indices)) ≡ Some n
row_hit size cell row n fits elements =
    let old = there_is row.numbers (place_of size cell.indices) (place_within size cell row fits elements) in
    let numbers = slice_set row.numbers (place_of size cell.indices) n in
    ap (number_in (Some (written size cell row n)) (length cell.indices)) (place_is size cell.indices elements)
    ∙ ap (λ b. if b then slice_get numbers (place_of size cell.indices) else None) (eq-eqb (length cell.indices) row.arity fits.long)
    ∙ get_set_same row.numbers (place_of size cell.indices) n old.0 old.1

abbrev at_place : ℕ → List ℕ → Bool → Row → Option ℕ
at_place size args b r = number_in (Some r) (length args) (if b then Some (place_of size args) else None)

abbrev at_args : ℕ → List ℕ → Option Row → Option ℕ
at_args size args o = number_in o (length args) (place_in size (Some args))

row_other : (size : ℕ) (cell : Entry) (row : Row) (n : ℕ) (args : List ℕ) → Fits size cell row → All (λ i. i < size) cell.indices → ¬ (args ≡ cell.indices)
    → number_in (Some (written size cell row n)) (length args) (place_in size (Some args)) ≡ number_in (Some row) (length args) (place_in size (Some args))
row_other size cell row n args fits elements other = by (list_all (λ v. nat_lt v size) args) refl (nat_eq (length args) row.arity) refl
  where
    by : (b : Bool) → list_all (λ v. nat_lt v size) args ≡ b → (t : Bool) → nat_eq (length args) row.arity ≡ t → at_place size args (list_all (λ v. nat_lt v size) args) (written size cell row n) ≡ at_place size args (list_all (λ v. nat_lt v size) args) row
    by false e t f = (λ i. at_place size args (e i) (written size cell row n)) ∙ sym (λ i. at_place size args (e i) row)
    by true e false f =
        (λ i. at_place size args (e i) (written size cell row n)) ∙ (λ i. if f i then slice_get (written size cell row n).numbers (place_of size args) else None)
        ∙ sym (λ i. if f i then slice_get row.numbers (place_of size args) else None) ∙ sym (λ i. at_place size args (e i) row)
    by true e true f =
        let long : length args ≡ length cell.indices = eqb-true (length args) row.arity f ∙ sym fits.long in
        let below : All (λ v. v < size) args = All-from_recursion (λ v. v < size) args (below_all size args e) in
        let apart : ¬ (place_of size cell.indices ≡ place_of size args)
        = λ is. other (same_place size args cell.indices below elements long (sym is)) in
        (λ i. at_place size args (e i) (written size cell row n)) ∙ (λ i. if nat_eq (length args) row.arity then (get_set_other row.numbers (place_of size cell.indices) (place_of size args) n apart i) else None)
        ∙ sym (λ i. at_place size args (e i) row)

-- ---- one number among the rows

numbered_more : {X : Type 0} (xs : List X) (n : ℕ) → 0 < n → numbered xs n ≡ slice_get xs (n - 1)
numbered_more xs n h = by (n == 0) refl
  where
    by : (b : Bool) → (n == 0) ≡ b → (if n == 0 then None else slice_get xs (n - 1)) ≡ slice_get xs (n - 1)
    by true e = let bad : n ≡ 0 = eqb-true n 0 e in absurd (omega arith)
    by false e = ap (λ b. if b then None else slice_get xs (n - 1)) e

module _ (size : ℕ) (rows : List Row) (cell : Entry) (n : ℕ) (has : HasRow size rows cell) where
  abbrev at_row : ℕ
  at_row = cell.symbol - 1

  abbrev after : List Row
  after = with_number_in rows at_row (slice_get rows at_row) (place_of size cell.indices) n

  found_row : (row : Row) × (slice_get rows at_row ≡ Some row) × Fits size cell row
  found_row = by (slice_get rows at_row) refl has.row
    where
      by : (o : Option Row) → slice_get rows at_row ≡ o → IsSomeAnd o (Fits size cell) → (row : Row) × (slice_get rows at_row ≡ Some row) × Fits size cell row
      by None e h = absurd h
      by (Some row) e h = (row, e, h)

  after_is : after ≡ slice_set rows at_row (written size cell found_row.0 n)
  after_is = ap (λ o. with_number_in rows at_row o (place_of size cell.indices) n) found_row.1

  pub number_hit : number_for size after (record { 0 = cell.symbol }) cell.indices ≡ Some n
  number_hit =
      let new : numbered after cell.symbol ≡ Some (written size cell found_row.0 n)
      = ap (λ rs. numbered rs cell.symbol) after_is ∙ numbered_more _ cell.symbol has.symbol ∙ get_set_same rows at_row (written size cell found_row.0 n) found_row.0 found_row.1 in
      ap (λ o. number_in o (length cell.indices) (place_in size (Some cell.indices))) new ∙ row_hit size cell found_row.0 n found_row.2 has.elements

  pub number_other : (f : SymId) (args : List ℕ) → is_cell_of f args cell ≡ false → number_for size after f args ≡ number_for size rows f args
  number_other f args other = by (f.0 == 0) refl
    where
      by : (b : Bool) → (f.0 == 0) ≡ b → number_for size after f args ≡ number_for size rows f args
      by true e = (λ i. at_args size args (if e i then None else slice_get after (f.0 - 1))) ∙ sym (λ i. at_args size args (if e i then None else slice_get rows (f.0 - 1)))
      by false e =
          (λ i. at_args size args (if e i then None else slice_get after (f.0 - 1))) ∙ split (cases_eq f.0 cell.symbol)
          ∙ sym (λ i. at_args size args (if e i then None else slice_get rows (f.0 - 1)))
        where
          positive : ¬ (f.0 ≡ 0)
          positive = eqb-false f.0 0 e

          split : (f.0 ≡ cell.symbol) ⊎ (f.0 ≢ cell.symbol) → at_args size args (slice_get after (f.0 - 1)) ≡ at_args size args (slice_get rows (f.0 - 1))
          split (inl same) =
              let place : f.0 - 1 ≡ at_row = ap (λ k. k - 1) same in
              let old : slice_get rows (f.0 - 1) ≡ Some found_row.0 = ap (slice_get rows) place ∙ found_row.1 in
              let new : slice_get after (f.0 - 1) ≡ Some (written size cell found_row.0 n)
              = ap (slice_get after) place ∙ ap (λ rs. slice_get rs at_row) after_is ∙ get_set_same rows at_row (written size cell found_row.0 n) found_row.0 found_row.1 in
              let apart : ¬ (args ≡ cell.indices) = λ is. true≢false (sym (here is) ∙ other) in
              ap (at_args size args) new ∙ row_other size cell found_row.0 n args found_row.2 has.elements apart ∙ sym (ap (at_args size args) old)
            where
              here : args ≡ cell.indices → is_cell_of f args cell ≡ true
              here is = let whole : cell_of f args ≡ cell = (λ i. record { symbol = same i; indices = is i }) in ap (is_cell_of f args) (sym whole) ∙ its_cell f args
          split (inr differ) =
              let apart : ¬ (at_row ≡ f.0 - 1) = λ is. differ (let h = has.symbol in let p = positive in omega arith) in
              ap (at_args size args) (ap (λ rs. slice_get rs (f.0 - 1)) after_is ∙ get_set_other rows at_row (f.0 - 1) (written size cell found_row.0 n) apart)

  -- each cell that has a row still has one
  pub row_stays : (other : Entry) → HasRow size rows other → HasRow size after other
  row_stays other h = record { symbol = h.symbol; row = by (cases_eq at_row (other.symbol - 1)); elements = h.elements }
    where
      by : (at_row ≡ other.symbol - 1) ⊎ (at_row ≢ other.symbol - 1) → IsSomeAnd (slice_get after (other.symbol - 1)) (Fits size other)
      by (inl same) =
          let old : IsSomeAnd (Some found_row.0) (Fits size other) = subst (λ o. IsSomeAnd o (Fits size other)) (ap (slice_get rows) (sym same) ∙ found_row.1) h.row in
          let new : slice_get after (other.symbol - 1) ≡ Some (written size cell found_row.0 n)
          = ap (slice_get after) (sym same) ∙ ap (λ rs. slice_get rs at_row) after_is ∙ get_set_same rows at_row (written size cell found_row.0 n) found_row.0 found_row.1 in
          subst (λ o. IsSomeAnd o (Fits size other)) (sym new) (record { long = old.long; many = length-set found_row.0.numbers (place_of size cell.indices) n ∙ old.many })
      by (inr differ) =
          subst (λ o. IsSomeAnd o (Fits size other)) (sym (ap (λ rs. slice_get rs (other.symbol - 1)) after_is ∙ get_set_other rows at_row (other.symbol - 1) (written size cell found_row.0 n) differ)) h.row

-- ---- one cell after another

pub none_numbered : (size : ℕ) (rows : List Row) (cells : List Entry) → AreBlank size rows (length cells) → AreNumbered 0 size rows cells
none_numbered size rows cells blank = record {
  there = λ n cell few at_n. absurd (omega arith);
  right = λ f args n e few. let much = blank f args n e in absurd (omega (arith, much));
}

pub all_numbered : (size : ℕ) (rows : List Row) (cells : List Entry) (many : ℕ) → length cells ≤ many → AreNumbered many size rows cells → AreIndexed size rows cells
all_numbered size rows cells many h numbered = record {
  there = λ n cell at_n. let within = slice_get_within cells n cell at_n in numbered.there n cell (omega (arith, within)) at_n;
  right = λ f args n e few. (numbered.right f args n e few).1;
}

pub one_numbered : (size : ℕ) (rows : List Row) (cells : List Entry) (n : ℕ) (cell : Entry) → AreApart cells → slice_get cells n ≡ Some cell → (has : HasRow size rows cell)
    → AreNumbered n size rows cells
    → AreNumbered (n + 1) size (with_number_in rows (cell.symbol - 1) (slice_get rows (cell.symbol - 1)) (place_of size cell.indices) n) cells
one_numbered size rows cells n cell apart here has old = record { there = there; right = right }
  where
    there : (m : ℕ) (other : Entry) → m < n + 1 → slice_get cells m ≡ Some other → number_for size (after size rows cell n has) (record { 0 = other.symbol }) other.indices ≡ Some m
    there m other few at_m = split (cases_eq m n)
      where
        split : (m ≡ n) ⊎ (m ≢ n) → number_for size (after size rows cell n has) (record { 0 = other.symbol }) other.indices ≡ Some m
        split (inl same) =
            let is : Some other ≡ Some cell = sym at_m ∙ ap (slice_get cells) same ∙ here in
            let one : other ≡ cell = cc in
            ap (λ (x : Entry). number_for size (after size rows cell n has) (record { 0 = x.symbol }) x.indices) one ∙ number_hit size rows cell n has ∙ ap Some (sym same)
        split (inr differ) = test (is_cell_of (record { 0 = other.symbol }) other.indices cell) refl
          where
            less : m < n
            less = omega (arith, differ)

            test : (b : Bool) → is_cell_of (record { 0 = other.symbol }) other.indices cell ≡ b
                → number_for size (after size rows cell n has) (record { 0 = other.symbol }) other.indices ≡ Some m
            test true e =
                let same : cell ≡ other = is_cell (record { 0 = other.symbol }) other.indices cell e in
                let first : get_or cells m cell ≡ other = get_or_from_slice_get cells m other cell at_m in
                let second : get_or cells n cell ≡ cell = get_or_from_slice_get cells n cell cell here in
                absurd (apart m n cell less (slice_get_within cells n cell here) (first ∙ sym same ∙ sym second))
            test false e = number_other size rows cell n has (record { 0 = other.symbol }) other.indices e ∙ old.there m other less at_m

    right : (f : SymId) (args : List ℕ) (m : ℕ) → number_for size (after size rows cell n has) f args ≡ Some m → m < length cells → (m < n + 1) × (slice_get cells m ≡ Some (cell_of f args))
    right f args m e few = test (is_cell_of f args cell) refl
      where
        test : (b : Bool) → is_cell_of f args cell ≡ b → (m < n + 1) × (slice_get cells m ≡ Some (cell_of f args))
        test true t =
            let is : cell ≡ cell_of f args = is_cell f args cell t in
            let hit : number_for size (after size rows cell n has) f args ≡ Some n
            = ap (λ (x : Entry). number_for size (after size rows cell n has) (record { 0 = x.symbol }) x.indices) (sym is) ∙ number_hit size rows cell n has in
            let same : Some m ≡ Some n = sym e ∙ hit in
            let one : m ≡ n = cc in
            (omega arith, ap (slice_get cells) one ∙ here ∙ ap Some is)
        test false t =
            let before = old.right f args m (sym (number_other size rows cell n has f args t) ∙ e) few in
            (let less = before.0 in omega arith, before.1)

-- ---- blank rows

number_replicated : (count many p n : ℕ) → slice_get (replicate count many) p ≡ Some n → n ≡ many
number_replicated zero many p n e = cc
number_replicated (suc count) many zero n e = cc
number_replicated (suc count) many (suc p) n e = number_replicated count many p n e

row_blank : (size many : ℕ) (s : Symbol) (args : List ℕ) (n : ℕ) → number_in (Some (blank_row size many s)) (length args) (place_in size (Some args)) ≡ Some n → n ≡ many
row_blank size many s args n e = by (place_in size (Some args)) e
  where
    by : (o : Option ℕ) → number_in (Some (blank_row size many s)) (length args) o ≡ Some n → n ≡ many
    by None f = cc
    by (Some p) f = test (nat_eq (length args) s.arity) f
      where
        test : (b : Bool) → (if b then slice_get (replicate (size ^ s.arity) many) p else None) ≡ Some n → n ≡ many
        test true g = number_replicated (size ^ s.arity) many p n g
        test false g = cc

pub rows_blank : (size many : ℕ) (symbols : List Symbol) → AreBlank size (map (blank_row size many) symbols) many
rows_blank size many symbols f args n e = by (f.0 == 0) e
  where
    by : (b : Bool) → number_in (if b then None else slice_get (map (blank_row size many) symbols) (f.0 - 1)) (length args) (place_in size (Some args)) ≡ Some n → many ≤ n
    by true g = cc
    by false g = find (slice_get symbols (f.0 - 1)) refl
      where
        find : (o : Option Symbol) → slice_get symbols (f.0 - 1) ≡ o → many ≤ n
        find None h =
            let none : slice_get (map (blank_row size many) symbols) (f.0 - 1) ≡ None = slice_get-map (blank_row size many) symbols (f.0 - 1) ∙ ap (option_map (blank_row size many)) h in
            let bad : None ≡ Some n = sym (ap (λ o. number_in o (length args) (place_in size (Some args))) none) ∙ g in cc
        find (Some s) h =
            let some : slice_get (map (blank_row size many) symbols) (f.0 - 1) ≡ Some (blank_row size many s) = slice_get-map (blank_row size many) symbols (f.0 - 1) ∙ ap (option_map (blank_row size many)) h in
            let is : n ≡ many = row_blank size many s args n (sym (ap (λ o. number_in o (length args) (place_in size (Some args))) some) ∙ g) in
            omega arith

behind : {X : Type 0} (xs : List X) (n : ℕ) (x : X) → 0 < n → slice_get xs n ≡ Some x → slice_get (drop 1 xs) (n - 1) ≡ Some x
behind [] n x h e = cc
behind (y ∷ ys) zero x h e = absurd (omega arith)
behind (y ∷ ys) (suc n) x h e = let less : suc n - 1 ≡ n = omega arith in ap (slice_get ys) less ∙ e

pub has_blank : (sig : List Symbol) (size many : ℕ) (cell : Entry) → IsCell sig size cell → HasRow size (map (blank_row size many) (drop 1 sig)) cell
has_blank sig size many cell is = by (slice_get sig cell.symbol) refl is.1
  where
    by : (o : Option Symbol) → slice_get sig cell.symbol ≡ o → IsSomeAnd o (λ s. length cell.indices ≡ s.arity) → HasRow size (map (blank_row size many) (drop 1 sig)) cell
    by None e h = absurd h
    by (Some s) e h =
        let row : slice_get (map (blank_row size many) (drop 1 sig)) (cell.symbol - 1) ≡ Some (blank_row size many s)
        = slice_get-map (blank_row size many) (drop 1 sig) (cell.symbol - 1) ∙ ap (option_map (blank_row size many)) (behind sig cell.symbol s is.0 e) in
        record {
          symbol = is.0;
          row = subst (λ o. IsSomeAnd o (Fits size cell)) (sym row) (record { long = h; many = length-replicate (size ^ s.arity) many });
          elements = is.2;
        }

-- ---- cells in order

not_before : (ns : List ℕ) → IsBefore ns ns → ⊥
not_before [] h = h
not_before (n ∷ ns) (inl h) = absurd (omega arith)
not_before (n ∷ ns) (inr h) = not_before ns h.1

pub cells_apart : (sig : List Symbol) (size : ℕ) (cells : List Entry) → AreCells sig size cells → AreApart cells
cells_apart sig size cells order i j d less within same =
    not_before (cell_numbers (get_or cells j d)) (subst (λ (x : Entry). IsBefore (cell_numbers x) (cell_numbers (get_or cells j d))) same (order.rising i j d less within))

-- ---- slots

pub slots_more : (sig : List Symbol) (size : ℕ) (cells : List Cell) (i : ℕ) (cell : Cell) (old new : List Slot) (slot : Slot) → slice_get cells i ≡ Some cell
    → ((entries : List Entry) → All (IsCell sig size) entries → cells ≡ map (cell_at size) entries → slot_entries old ≡ take i entries)
    → ((entry : Entry) → IsCell sig size entry → cell ≡ cell_at size entry → entry_of slot ≡ entry) → new ≡ old ++ slot ∷ []
    → (entries : List Entry) → All (IsCell sig size) entries → cells ≡ map (cell_at size) entries → slot_entries new ≡ take (i + 1) entries
slots_more sig size cells i cell old new slot here before one is entries all are =
    find (slice_get entries i) refl
  where
    at_i : slice_get (map (cell_at size) entries) i ≡ Some cell
    at_i = ap (λ l. slice_get l i) (sym are) ∙ here

    find : (o : Option Entry) → slice_get entries i ≡ o → slot_entries new ≡ take (i + 1) entries
    find None e = let none : None ≡ Some cell = sym (slice_get-map (cell_at size) entries i ∙ ap (option_map (cell_at size)) e) ∙ at_i in cc
    find (Some entry) e =
        let some : Some (cell_at size entry) ≡ Some cell = sym (slice_get-map (cell_at size) entries i ∙ ap (option_map (cell_at size)) e) ∙ at_i in
        let its : cell ≡ cell_at size entry = cc in
        let is_cell : IsCell sig size entry = subst (IsCell sig size) (get_or_from_slice_get entries i entry entry e) (all i entry (slice_get_within entries i entry e)) in
        let same : entry_of slot ≡ entry = one entry is_cell its in
        ap slot_entries is ∙ map-append entry_of old (slot ∷ []) ∙ (λ j. before entries all are j ++ same j ∷ []) ∙ sym (one_more entries i entry e)

-- the symbol of a cell is there
pub symbol_within : (sig : List Symbol) (size : ℕ) (cells : List Cell) (i : ℕ) (cell : Cell) → slice_get cells i ≡ Some cell
    → (entries : List Entry) → All (IsCell sig size) entries → cells ≡ map (cell_at size) entries → cell.sym.0 < length sig
symbol_within sig size cells i cell here entries all are = find (slice_get entries i) refl
  where
    at_i : slice_get (map (cell_at size) entries) i ≡ Some cell
    at_i = ap (λ l. slice_get l i) (sym are) ∙ here

    there : (o : Option Symbol) (entry : Entry) → slice_get sig entry.symbol ≡ o → IsSomeAnd o (λ s. length entry.indices ≡ s.arity) → entry.symbol < length sig
    there None entry e h = absurd h
    there (Some s) entry e h = slice_get_within sig entry.symbol s e

    find : (o : Option Entry) → slice_get entries i ≡ o → cell.sym.0 < length sig
    find None e = let none : None ≡ Some cell = sym (slice_get-map (cell_at size) entries i ∙ ap (option_map (cell_at size)) e) ∙ at_i in cc
    find (Some entry) e =
        let some : Some (cell_at size entry) ≡ Some cell = sym (slice_get-map (cell_at size) entries i ∙ ap (option_map (cell_at size)) e) ∙ at_i in
        let its : cell_at size entry ≡ cell = cc in
        let is_cell : IsCell sig size entry = subst (IsCell sig size) (get_or_from_slice_get entries i entry entry e) (all i entry (slice_get_within entries i entry e)) in
        let within : entry.symbol < length sig = there (slice_get sig entry.symbol) entry refl is_cell.1 in
        let symbol : entry.symbol ≡ cell.sym.0 = ap (λ (x : Cell). x.sym.0) its in
        omega (arith, within, symbol)

-- one more row whose numbers are all the same
pub rows_behind : (size number : ℕ) (xs : List Symbol) (i : ℕ) (s : Symbol) (old new : List Row) (numbers : List ℕ) → 1 ≤ i → slice_get xs i ≡ Some s
    → old ≡ map (blank_row size number) (drop 1 (take i xs)) → numbers ≡ replicate (size ^ s.arity) number
    → new ≡ old ++ record { arity = s.arity; numbers = numbers } ∷ [] → new ≡ map (blank_row size number) (drop 1 (take (i + 1) xs))
rows_behind size number xs i s old new numbers h e before blank is =
    is ∙ (λ j. before j ++ record { arity = s.arity; numbers = blank j } ∷ []) ∙ sym (mapped_behind (blank_row size number) xs i s h e)

-- ---- a write

entry_at_cell : (size : ℕ) (entries : List Entry) (cells : List Cell) (n : ℕ) (cell : Cell) → cells ≡ map (cell_at size) entries → slice_get cells n ≡ Some cell
    → (entry : Entry) × (slice_get entries n ≡ Some entry) × (cell_at size entry ≡ cell)
entry_at_cell size entries cells n cell are here = find (slice_get entries n) refl
  where
    at_n : slice_get (map (cell_at size) entries) n ≡ Some cell
    at_n = ap (λ l. slice_get l n) (sym are) ∙ here

    find : (o : Option Entry) → slice_get entries n ≡ o → (entry : Entry) × (slice_get entries n ≡ Some entry) × (cell_at size entry ≡ cell)
    find None e = let none : None ≡ Some cell = sym (slice_get-map (cell_at size) entries n ∙ ap (option_map (cell_at size)) e) ∙ at_n in cc
    find (Some entry) e =
        let some : Some (cell_at size entry) ≡ Some cell = sym (slice_get-map (cell_at size) entries n ∙ ap (option_map (cell_at size)) e) ∙ at_n in
        (entry, e, cc)

its_row : (size : ℕ) (rows : List Row) (entries : List Entry) (n : ℕ) (entry : Entry) → All (HasRow size rows) entries → slice_get entries n ≡ Some entry → HasRow size rows entry
its_row size rows entries n entry each here =
    subst (HasRow size rows) (get_or_from_slice_get entries n entry entry here) (each n entry (slice_get_within entries n entry here))

pub write_fits : (size : ℕ) (rows : List Row) (entries : List Entry) (cells : List Cell) (n : ℕ) (cell : Cell) → HaveRows size rows entries cells → slice_get cells n ≡ Some cell
    → (0 < cell.sym.0) × IsSomeAnd (slice_get rows (cell.sym.0 - 1)) (λ row. cell.place < length row.numbers)
write_fits size rows entries cells n cell have here =
    let found = entry_at_cell size entries cells n cell have.are here in
    let has = its_row size rows entries n found.0 have.each found.1 in
    subst (λ (x : Cell). (0 < x.sym.0) × IsSomeAnd (slice_get rows (x.sym.0 - 1)) (λ row. x.place < length row.numbers)) found.2
    (has.symbol, by found.0 has.elements (slice_get rows (found.0.symbol - 1)) has.row)
  where
    by : (entry : Entry) → All (λ i. i < size) entry.indices → (o : Option Row) → IsSomeAnd o (Fits size entry) → IsSomeAnd o (λ row. place_of size entry.indices < length row.numbers)
    by entry elements None h = h
    by entry elements (Some row) h = place_within size entry row h elements

pub numbered_step : (size : ℕ) (entries : List Entry) (cells : List Cell) (rows next : List Row) (n : ℕ) (cell : Cell) → slice_get cells n ≡ Some cell → HaveRows size rows entries cells
    → next ≡ with_number_in rows (cell.sym.0 - 1) (slice_get rows (cell.sym.0 - 1)) cell.place n
    → HaveRows size next entries cells × (AreApart entries → AreNumbered n size rows entries → AreNumbered (n + 1) size next entries)
numbered_step size entries cells rows next n cell here have is =
    let found = entry_at_cell size entries cells n cell have.are here in
    let has = its_row size rows entries n found.0 have.each found.1 in
    let same : next ≡ after size rows found.0 n has
    = is ∙ ap (λ (x : Cell). with_number_in rows (x.sym.0 - 1) (slice_get rows (x.sym.0 - 1)) x.place n) (sym found.2) in (
      record {
        are = have.are;
        each = λ k d lt. subst (λ rs. HasRow size rs (get_or entries k d)) (sym same) (row_stays size rows found.0 n has (get_or entries k d) (have.each k d lt));
      },
      λ apart old. subst (λ rs. AreNumbered (n + 1) size rs entries) (sym same) (one_numbered size rows entries n found.0 apart found.1 has old),
    )

pub slot_entry : (sig : List Symbol) (size : ℕ) (cell : Cell) (s : Symbol) (indices : List ℕ) → slice_get sig cell.sym.0 ≡ Some s
    → ((ds : List ℕ) → length ds ≡ s.arity → All (λ d. d < size) ds → place_of size ds ≡ cell.place → indices ≡ ds)
    → (entry : Entry) → IsCell sig size entry → cell ≡ cell_at size entry → record { symbol = cell.sym.0; indices = indices } ≡ entry
slot_entry sig size cell s indices here one entry is its =
    let symbol : cell.sym.0 ≡ entry.symbol = ap (λ (x : Cell). x.sym.0) its in
    let place : cell.place ≡ place_of size entry.indices = ap (λ (x : Cell). x.place) its in
    let long : length entry.indices ≡ s.arity = by (slice_get sig entry.symbol) (ap (slice_get sig) (sym symbol) ∙ here) is.1 in
    let same : indices ≡ entry.indices = one entry.indices long is.2 (sym place) in
    λ i. record { symbol = symbol i; indices = same i }
  where
    by : (o : Option Symbol) → o ≡ Some s → IsSomeAnd o (λ s. length entry.indices ≡ s.arity) → length entry.indices ≡ s.arity
    by None e h = absurd h
    by (Some t) e h = let t_is : t ≡ s = cc in h ∙ ap (λ (x : Symbol). x.arity) t_is
