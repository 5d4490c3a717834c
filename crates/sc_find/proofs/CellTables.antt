-- Each cell of a signature has an entry of its own in tables over it, which may hold the cell's values.
use Rattle.std.proofs.Common.{◌≡◌, ◌≢◌, ◌∙◌, sym, ap, subst, refl, ℕ, zero, suc, ◌-◌, ◌^◌, ◌<◌, List, [], ◌∷◌, length, map, drop, slice_get, slice_index, get_or, Option, Some, None, arith}
use Rattle.std.specs.Option.{IsSomeAnd}
use Rattle.std.specs.List.{All, AllZip, AllPairs}
use Rattle.std.proofs.lemmas.List.{length-map, get_or-map, take_all}
use Rattle.std.proofs.lemmas.Option.{slice_get_within, get_or_from_slice_get}
use Rattle.sc_term.specs.Numbering.{numbered}
use Rattle.sc_term.specs.declared.symbol.Symbol.{Symbol}
use Rattle.sc_interp.specs.declared.table.Table.{Table}
use Rattle.sc_interp.specs.Structure.{Structure, IsStructure, IsTable, IsTableOf, AreTablesOf, HasPlace, MayHold, entry, entry_at, place_of, values_below}
use Rattle.sc_cells.specs.declared.cells.Cell.{Cell}
use Rattle.sc_cells.specs.Cells.{Entry, IsCell, AreCells, AreValues, cell_at, cell_numbers, below_of}
use Rattle.sc_cells.specs.Cells.{values_below as cell_values}
use Rattle.sc_cells.specs.Order.{IsBefore}
use Rattle.sc_cells.specs.Listing.{digits}
use Rattle.sc_cells.proofs.DigitLaws.{digits_of_place, place_below}
use Rattle.sc_find.specs.Models.{Task, AreTablesWith}
use Rattle.sc_find.proofs.OneLaws.{never_before_itself}
use Rattle.sc_find.proofs.TableLaws.{numbered_at}
use Rattle.sc_find.proofs.JobLaws.{entry_there, cell_there}

none_is_not : {A : Type 0} {B : Type 0} (a : A) → ◌≡◌ {A = Option A} None (Some a) → B
none_is_not a e = cc

there : {A : Type 0} (P : A → Type 0) (o : Option A) → IsSomeAnd o P → (x : A) × (o ≡ Some x) × P x
there P None h = absurd h
there P (Some x) h = (x, refl, h)

is_some_and : {A : Type 0} (P : A → Type 0) (o : Option A) (x : A) → o ≡ Some x → P x → IsSomeAnd o P
is_some_and P o x e h = subst (λ q. IsSomeAnd q P) (sym e) h

zip_at : {A B : Type 0} (R : A → B → Type 0) (xs : List A) (ys : List B) → AllZip R xs ys → (k : ℕ) (x : A) → slice_get xs k ≡ Some x → (y : B) × (slice_get ys k ≡ Some y) × R x y
zip_at R [] ys h k x e = none_is_not x e
zip_at R (a ∷ xs) [] h k x e = absurd h
zip_at R (a ∷ xs) (b ∷ ys) h zero x e = let same : a ≡ x = cc in (b, refl, subst (λ c. R c b) same h.0)
zip_at R (a ∷ xs) (b ∷ ys) h (suc k) x e = zip_at R xs ys h.1 k x e

behind_first : {A : Type 0} (xs : List A) (n : ℕ) → 0 < n → slice_get (drop 1 xs) (n - 1) ≡ slice_get xs n
behind_first [] n lt = refl
behind_first (x ∷ xs) zero lt = absurd (omega (arith, lt))
behind_first (x ∷ xs) (suc n) lt = ap (slice_get xs) (let e : suc n - 1 ≡ n = omega arith in e)

same_some : {A : Type 0} (a b : A) → ◌≡◌ {A = Option A} (Some a) (Some b) → a ≡ b
same_some a b e = cc

-- the table of a cell's symbol
pub record HasTable (sig : List Symbol) (size : ℕ) (t : Structure) (cell : Entry) : Type 0 where
  pub symbol : Symbol
  pub table : Table
  pub at : slice_get sig cell.symbol ≡ Some symbol
  pub listed : numbered t.tables cell.symbol ≡ Some table
  pub of : IsTableOf symbol table
  pub is_table : IsTable size table
  pub arity : length cell.indices ≡ symbol.arity
  pub elements : All (λ i. i < size) cell.indices

module _ (sig : List Symbol) (size : ℕ) (t : Structure) (sized : t.size ≡ size) (over : AreTablesOf sig t) (is : IsStructure t) where
  has_table : (cell : Entry) → IsCell sig size cell → HasTable sig size t cell
  has_table cell c =
      let s = there (λ (s : Symbol). length cell.indices ≡ s.arity) (slice_get sig cell.symbol) c.1 in
      let z = zip_at IsTableOf (drop 1 sig) t.tables over (cell.symbol - 1) s.0 (behind_first sig cell.symbol c.0 ∙ s.1) in
      let kept : IsTable t.size z.0 = subst (IsTable t.size) (get_or_from_slice_get t.tables (cell.symbol - 1) z.0 z.0 z.1) (is.each (cell.symbol - 1) z.0 (slice_get_within t.tables (cell.symbol - 1) z.0 z.1)) in
      record {
        symbol = s.0;
        table = z.0;
        at = s.1;
        listed = numbered_at t.tables cell.symbol c.0 ∙ z.1;
        of = z.2;
        is_table = subst (λ n. IsTable n z.0) sized kept;
        arity = s.2;
        elements = c.2;
      }

  place_there : (cell : Entry) → IsCell sig size cell → HasPlace t (record { 0 = cell.symbol }) (place_of size cell.indices)
  place_there cell c =
      let h = has_table cell c in
      let below = place_below size cell.indices h.elements in
      let power : size ^ length cell.indices ≡ length h.table.entries = ap (λ n. size ^ n) (h.arity ∙ sym h.of.arity) ∙ sym h.is_table.many in
      is_some_and (λ (table : Table). place_of size cell.indices < length table.entries) (numbered t.tables cell.symbol) h.table h.listed (omega (arith, below, power))

  holds_value : (cell : Entry) (v : ℕ) → IsCell sig size cell → v < cell_values sig size cell → MayHold t (record { 0 = cell.symbol }) v
  holds_value cell v c lt =
      let h = has_table cell c in
      let below : v < values_below h.symbol.role size = subst (λ o. v < below_of size o) h.at lt in
      let role : v < values_below h.table.role size = subst (λ r. v < values_below r size) (sym h.of.role) below in
      is_some_and (λ (table : Table). v < values_below table.role t.size) (numbered t.tables cell.symbol) h.table h.listed (subst (λ n. v < values_below h.table.role n) (sym sized) role)

-- ---- cells differ

one_length : (sig : List Symbol) (size : ℕ) (x y : Entry) → IsCell sig size x → IsCell sig size y → x.symbol ≡ y.symbol → length x.indices ≡ length y.indices
one_length sig size x y a b same =
    let s = there (λ (s : Symbol). length x.indices ≡ s.arity) (slice_get sig x.symbol) a.1 in
    let r = there (λ (s : Symbol). length y.indices ≡ s.arity) (slice_get sig y.symbol) b.1 in
    let equal : s.0 ≡ r.0 = same_some s.0 r.0 (sym s.1 ∙ ap (slice_get sig) same ∙ r.1) in
    s.2 ∙ ap (λ (q : Symbol). q.arity) equal ∙ sym r.2

same_entry : (sig : List Symbol) (size : ℕ) (x y : Entry) → IsCell sig size x → IsCell sig size y → cell_at size x ≡ cell_at size y → x ≡ y
same_entry sig size x y a b e =
    let symbols : x.symbol ≡ y.symbol = ap (λ (c : Cell). c.sym.0) e in
    let places : place_of size x.indices ≡ place_of size y.indices = ap (λ (c : Cell). c.place) e in
    let long = one_length sig size x y a b symbols in
    let left = digits_of_place size (length y.indices) x.indices long a.2 in
    let right = digits_of_place size (length y.indices) y.indices refl b.2 in
    let indices : x.indices ≡ y.indices = sym left ∙ ap (digits size (length y.indices)) places ∙ right in
    λ i. record { symbol = symbols i; indices = indices i }

pub cells_distinct : (sig : List Symbol) (size : ℕ) (entries : List Entry) → AreCells sig size entries → AllPairs (λ (a b : Cell). a ≢ b) (map (cell_at size) entries)
cells_distinct sig size entries are i j d lt within e =
    let some : Entry = record { symbol = 0; indices = [] } in
    let long : j < length entries = omega (arith, within, length-map entries (cell_at size)) in
    let first : i < length entries = omega (arith, lt, long) in
    let x = get_or entries i some in
    let y = get_or entries j some in
    let equal : cell_at size x ≡ cell_at size y = sym (get_or-map (cell_at size) entries i some d first) ∙ e ∙ get_or-map (cell_at size) entries j some d long in
    let same = same_entry sig size x y (are.only i some first) (are.only j some long) equal in
    let before : IsBefore (cell_numbers x) (cell_numbers y) = are.rising i j some lt long in
    never_before_itself (cell_numbers y) (subst (λ z. IsBefore (cell_numbers z) (cell_numbers y)) same before)

-- ---- all cells

module _ (task : Task) (entries : List Entry) (cells : List Cell) (values : List ℕ) (t : Structure) (are : AreCells task.sig task.size entries) (listed : cells ≡ map (cell_at task.size) entries)
    (sized : t.size ≡ task.size) (over : AreTablesOf task.sig t) (is : IsStructure t) where
  is_cell : (k : ℕ) (entry : Entry) → slice_get entries k ≡ Some entry → IsCell task.sig task.size entry
  is_cell k entry at = subst (IsCell task.sig task.size) (get_or_from_slice_get entries k entry entry at) (are.only k entry (slice_get_within entries k entry at))

  pub places_there : (k : ℕ) (cell : Cell) → slice_get cells k ≡ Some cell → HasPlace t cell.sym cell.place
  places_there k cell at =
      let e = entry_there task.size entries k cell (ap (λ cs. slice_get cs k) (sym listed) ∙ at) in
      subst (λ (c : Cell). HasPlace t c.sym c.place) (sym e.2) (place_there task.sig task.size t sized over is e.0 (is_cell k e.0 e.1))

  pub values_there : length values ≡ length entries → AreValues task.sig task.size entries values → (k : ℕ) (cell : Cell) → slice_get cells k ≡ Some cell → MayHold t cell.sym (slice_index values k)
  values_there many range k cell at =
      let e = entry_there task.size entries k cell (ap (λ cs. slice_get cs k) (sym listed) ∙ at) in
      let all : AllZip (λ cell v. v < cell_values task.sig task.size cell) entries values
      = subst (λ es. AllZip (λ cell v. v < cell_values task.sig task.size cell) es values) (take_all (length values) entries (omega (arith, many))) range in
      let v = zip_at (λ cell v. v < cell_values task.sig task.size cell) entries values all k e.0 e.1 in
      let value : slice_index values k ≡ v.0 = get_or_from_slice_get values k v.0 0 v.1 in
      let below : slice_index values k < cell_values task.sig task.size e.0 = subst (λ n. n < cell_values task.sig task.size e.0) (sym value) v.2 in
      subst (λ (c : Cell). MayHold t c.sym (slice_index values k)) (sym e.2) (holds_value task.sig task.size t sized over is e.0 (slice_index values k) (is_cell k e.0 e.1) below)

  pub all_distinct : AllPairs (λ (a b : Cell). a ≢ b) cells
  all_distinct = subst (AllPairs (λ (a b : Cell). a ≢ b)) (sym listed) (cells_distinct task.sig task.size entries are)

-- tables that were filled
pub tables_filled : (task : Task) (entries : List Entry) (cells : List Cell) (values : List ℕ) (new : Structure) → cells ≡ map (cell_at task.size) entries
    → new.size ≡ task.size → AreTablesOf task.sig new → ((k : ℕ) (cell : Cell) → slice_get cells k ≡ Some cell → entry_at new cell.sym cell.place ≡ slice_index values k) → AreTablesWith task entries values new
tables_filled task entries cells values new listed sized over each = record {
  over = over;
  size = sized;
  each = λ k cell at.
      let there = each k (cell_at task.size cell) (ap (λ cs. slice_get cs k) listed ∙ cell_there task.size entries k cell at) in
      ap (λ n. entry_at new (record { 0 = cell.symbol }) (place_of n cell.indices)) sized ∙ there;
}
