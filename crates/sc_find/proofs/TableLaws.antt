-- Tables with another entry, and which entries the cells have.
use Rattle.std.proofs.Common.{◌≡◌, ◌≢◌, ◌∙◌, sym, ap, subst, refl, ℕ, zero, suc, ◌+◌, ◌-◌, ◌<◌, ◌==◌, ◌⊎◌, inl, inr, Bool, true, false, List, [], ◌∷◌, length, slice_get, slice_set, slice_index, get_or, nat_eq, Option, Some, None, if◌then◌else◌, arith}
use Rattle.std.specs.Option.{IsSomeAnd}
use Rattle.std.specs.List.{AllPairs}
use Rattle.std.proofs.lemmas.Bool.{eqb-true, eqb-false}
use Rattle.std.proofs.lemmas.List.{length-set, get_or-set_same, get_or-set_other}
use Rattle.std.proofs.lemmas.Option.{slice_get_within, get_or_from_slice_get}
use Rattle.sc_term.specs.declared.SymId.{SymId}
use Rattle.sc_term.specs.Numbering.{numbered}
use Rattle.sc_interp.specs.declared.table.Table.{Table}
use Rattle.sc_interp.specs.Structure.{Structure, HasPlace, MayHold, entry_in, entry_at, with_entry, with_entry_in, values_below}
use Rattle.sc_cells.specs.declared.cells.Cell.{Cell}

none_is_not : {A : Type 0} {B : Type 0} (a : A) → ◌≡◌ {A = Option A} None (Some a) → B
none_is_not a e = cc

there : {A : Type 0} (P : A → Type 0) (o : Option A) → IsSomeAnd o P → (x : A) × (o ≡ Some x) × P x
there P None h = absurd h
there P (Some x) h = (x, refl, h)

is_some_and : {A : Type 0} (P : A → Type 0) (o : Option A) (x : A) → o ≡ Some x → P x → IsSomeAnd o P
is_some_and P o x e h = subst (λ q. IsSomeAnd q P) (sym e) h

-- ---- elements by number, with one of them changed

set_same : {A : Type 0} (xs : List A) (i : ℕ) (x y : A) → slice_get xs i ≡ Some y → slice_get (slice_set xs i x) i ≡ Some x
set_same [] i x y e = none_is_not y e
set_same (z ∷ zs) zero x y e = refl
set_same (z ∷ zs) (suc i) x y e = set_same zs i x y e

set_other : {A : Type 0} (xs : List A) (i j : ℕ) (x : A) → j ≢ i → slice_get (slice_set xs i x) j ≡ slice_get xs j
set_other [] i j x ne = refl
set_other (z ∷ zs) zero zero x ne = absurd (ne refl)
set_other (z ∷ zs) zero (suc j) x ne = refl
set_other (z ∷ zs) (suc i) zero x ne = refl
set_other (z ∷ zs) (suc i) (suc j) x ne = set_other zs i j x (λ e. ne (ap suc e))

numbered_some : {A : Type 0} (xs : List A) (n : ℕ) (y : A) → numbered xs n ≡ Some y → (0 < n) × (slice_get xs (n - 1) ≡ Some y)
numbered_some xs n y e = by (n == 0) refl e
  where
    by : (b : Bool) → (n == 0) ≡ b → (if b then None else slice_get xs (n - 1)) ≡ Some y → (0 < n) × (slice_get xs (n - 1) ≡ Some y)
    by true is e = none_is_not y e
    by false is e = let ne = eqb-false n 0 is in (omega (arith, ne), e)

pub numbered_at : {A : Type 0} (xs : List A) (n : ℕ) → 0 < n → numbered xs n ≡ slice_get xs (n - 1)
numbered_at {A} xs n lt = by (n == 0) refl
  where
    by : (b : Bool) → (n == 0) ≡ b → (if (n == 0) then (let none : Option A = None in none) else slice_get xs (n - 1)) ≡ slice_get xs (n - 1)
    by true is = let zero_is = eqb-true n 0 is in absurd (omega (arith, zero_is, lt))
    by false is = ap (λ b. if b then (let none : Option A = None in none) else slice_get xs (n - 1)) is

numbered_same : {A : Type 0} (xs : List A) (n : ℕ) (x y : A) → numbered xs n ≡ Some y → numbered (slice_set xs (n - 1) x) n ≡ Some x
numbered_same xs n x y e = let is = numbered_some xs n y e in numbered_at (slice_set xs (n - 1) x) n is.0 ∙ set_same xs (n - 1) x y is.1

numbered_other : {A : Type 0} (xs : List A) (n m : ℕ) (x : A) → 0 < n → m ≢ n → numbered (slice_set xs (n - 1) x) m ≡ numbered xs m
numbered_other {A} xs n m x lt ne = by (m == 0) refl
  where
    by : (b : Bool) → (m == 0) ≡ b → (if (m == 0) then (let none : Option A = None in none) else slice_get (slice_set xs (n - 1) x) (m - 1)) ≡ (if (m == 0) then (let none : Option A = None in none) else slice_get xs (m - 1))
    by true is = ap (λ b. if b then (let none : Option A = None in none) else slice_get (slice_set xs (n - 1) x) (m - 1)) is
        ∙ sym (ap (λ b. if b then (let none : Option A = None in none) else slice_get xs (m - 1)) is)
    by false is =
        let other = eqb-false m 0 is in
        let differ : (m - 1) ≢ (n - 1) = λ same. ne (omega (arith, other, lt, same)) in
        ap (λ o. if (m == 0) then (let none : Option A = None in none) else o) (set_other xs (n - 1) (m - 1) x differ)

-- ---- one entry changed

module _ (t : Structure) (f : SymId) (place value : ℕ) (has : HasPlace t f place) where
  old : (table : Table) × (numbered t.tables f.0 ≡ Some table) × (place < length table.entries)
  old = there (λ (table : Table). place < length table.entries) (numbered t.tables f.0) has

  changed : Table
  changed = record { role = old.0.role; arity = old.0.arity; entries = slice_set old.0.entries place value }

  now : with_entry t f place value ≡ record { size = t.size; tables = slice_set t.tables (f.0 - 1) (record { role = old.0.role; arity = old.0.arity; entries = slice_set old.0.entries place value }) }
  now = ap (λ (o : Option Table). record { size = t.size; tables = with_entry_in t.tables (f.0 - 1) o place value }) old.1

  tables_now : List Table
  tables_now = slice_set t.tables (f.0 - 1) (record { role = old.0.role; arity = old.0.arity; entries = slice_set old.0.entries place value })

  abbrev New : Table
  New = record { role = old.0.role; arity = old.0.arity; entries = slice_set old.0.entries place value }

  same_table : numbered (with_entry t f place value).tables f.0 ≡ Some New
  same_table = ap (λ (s : Structure). numbered s.tables f.0) now ∙ numbered_same t.tables f.0 New old.0 old.1

  other_table : (n : ℕ) → n ≢ f.0 → numbered (with_entry t f place value).tables n ≡ numbered t.tables n
  other_table n ne = ap (λ (s : Structure). numbered s.tables n) now ∙ numbered_other t.tables f.0 n New (numbered_some t.tables f.0 old.0 old.1).0 ne

  pub entry_same : entry_at (with_entry t f place value) f place ≡ value
  entry_same = ap (λ o. entry_in o place) same_table ∙ get_or-set_same old.0.entries place value 0 old.2

  pub entry_other : (s : SymId) (p : ℕ) → (s.0 ≢ f.0) ⊎ (p ≢ place) → entry_at (with_entry t f place value) s p ≡ entry_at t s p
  entry_other s p differ = by (nat_eq s.0 f.0) refl
    where
      by : (b : Bool) → nat_eq s.0 f.0 ≡ b → entry_at (with_entry t f place value) s p ≡ entry_at t s p
      by false unlike = ap (λ o. entry_in o p) (other_table s.0 (eqb-false s.0 f.0 unlike))
      by true is =
          let same : s.0 ≡ f.0 = eqb-true s.0 f.0 is in
          let apart : p ≢ place = elim differ [ inl other ↦ absurd (other same) | inr other ↦ other ] in
          ap (λ n. entry_in (numbered (with_entry t f place value).tables n) p) same
          ∙ ap (λ o. entry_in o p) same_table ∙ get_or-set_other old.0.entries place p value 0 apart
          ∙ sym (ap (λ o. entry_in o p) old.1) ∙ sym (ap (λ n. entry_in (numbered t.tables n) p) same)

  -- what a table keeps
  kept : (P : Table → Type 0) → (P old.0 → P New) → (n : ℕ) → IsSomeAnd (numbered t.tables n) P → IsSomeAnd (numbered (with_entry t f place value).tables n) P
  kept P to n h = by (nat_eq n f.0) refl
    where
      by : (b : Bool) → nat_eq n f.0 ≡ b → IsSomeAnd (numbered (with_entry t f place value).tables n) P
      by false unlike = subst (λ o. IsSomeAnd o P) (sym (other_table n (eqb-false n f.0 unlike))) h
      by true is =
          let same : n ≡ f.0 = eqb-true n f.0 is in
          let was : IsSomeAnd (Some old.0) P = subst (λ o. IsSomeAnd o P) (ap (numbered t.tables) same ∙ old.1) h in
          subst (λ m. IsSomeAnd (numbered (with_entry t f place value).tables m) P) (sym same) (subst (λ o. IsSomeAnd o P) (sym same_table) (to was))

  pub place_kept : (s : SymId) (p : ℕ) → HasPlace t s p → HasPlace (with_entry t f place value) s p
  place_kept s p h = kept (λ (table : Table). p < length table.entries) (λ lt. omega (arith, lt, length-set old.0.entries place value)) s.0 h

  pub hold_kept : (s : SymId) (v : ℕ) → MayHold t s v → MayHold (with_entry t f place value) s v
  hold_kept s v h = kept (λ (table : Table). v < values_below table.role t.size) (λ lt. lt) s.0 h

-- ---- the cells' entries

cells_differ : (a b : Cell) → a ≢ b → (a.sym.0 ≢ b.sym.0) ⊎ (a.place ≢ b.place)
cells_differ a b ne = by (nat_eq a.sym.0 b.sym.0) refl
  where
    by : (r : Bool) → nat_eq a.sym.0 b.sym.0 ≡ r → (a.sym.0 ≢ b.sym.0) ⊎ (a.place ≢ b.place)
    by false unlike = inl (eqb-false a.sym.0 b.sym.0 unlike)
    by true is =
        let same = eqb-true a.sym.0 b.sym.0 is in
        inr (λ places. ne (λ i. record { sym = record { 0 = same i }; place = places i }))

-- the first cells have their values
pub record AreFilled (t : Structure) (cells : List Cell) (values : List ℕ) (end : ℕ) : Type 0 where
  pub each : (k : ℕ) (cell : Cell) → k < end → slice_get cells k ≡ Some cell → entry_at t cell.sym cell.place ≡ slice_index values k
  pub places : (k : ℕ) (cell : Cell) → slice_get cells k ≡ Some cell → HasPlace t cell.sym cell.place
  pub in_range : (k : ℕ) (cell : Cell) → slice_get cells k ≡ Some cell → MayHold t cell.sym (slice_index values k)

pub filled_more : (t : Structure) (cells : List Cell) (values : List ℕ) (end : ℕ) (one : Cell) → slice_get cells end ≡ Some one → AllPairs (λ (a b : Cell). a ≢ b) cells
    → AreFilled t cells values end → AreFilled (with_entry t one.sym one.place (slice_index values end)) cells values (end + 1)
filled_more t cells values end one at distinct h = record {
  each = λ k cell below here. by k cell below here (nat_eq k end) refl;
  places = λ k cell here. place_kept t one.sym one.place (slice_index values end) has cell.sym cell.place (h.places k cell here);
  in_range = λ k cell here. hold_kept t one.sym one.place (slice_index values end) has cell.sym (slice_index values k) (h.in_range k cell here);
}
  where
    has : HasPlace t one.sym one.place
    has = h.places end one at

    by : (k : ℕ) (cell : Cell) → k < end + 1 → slice_get cells k ≡ Some cell → (b : Bool) → nat_eq k end ≡ b
        → entry_at (with_entry t one.sym one.place (slice_index values end)) cell.sym cell.place ≡ slice_index values k
    by k cell below here true is =
        let same : k ≡ end = eqb-true k end is in
        let both : ◌≡◌ {A = Option Cell} (Some cell) (Some one) = sym here ∙ ap (slice_get cells) same ∙ at in
        let cell_is : cell ≡ one = cc in
        ap (λ (c : Cell). entry_at (with_entry t one.sym one.place (slice_index values end)) c.sym c.place) cell_is
        ∙ entry_same t one.sym one.place (slice_index values end) has ∙ sym (ap (slice_index values) same)
    by k cell below here false unlike =
        let ne = eqb-false k end unlike in
        let less : k < end = omega (arith, below, ne) in
        let apart : get_or cells k cell ≢ get_or cells end cell = distinct k end cell less (slice_get_within cells end one at) in
        let differ : cell ≢ one = λ e. apart (get_or_from_slice_get cells k cell cell here ∙ e ∙ sym (get_or_from_slice_get cells end one cell at)) in
        entry_other t one.sym one.place (slice_index values end) has cell.sym cell.place (cells_differ cell one differ) ∙ h.each k cell less here
