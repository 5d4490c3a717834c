-- 1 more than the greatest element: of lists one after another, of digits, of what values use.
use Rattle.std.proofs.Common.{◌≡◌, ◌∙◌, sym, ap, subst, refl, ℕ, zero, suc, ◌+◌, ◌-◌, ◌<◌, ◌≤◌, ◌/◌, ◌%◌, List, [], ◌∷◌, ◌++◌, length, map, max, min, fold, drop, get_or, slice_get, option_map, Option, Some, None, IsSomeAnd, arith}
use Rattle.std.specs.List.{All}
use Rattle.std.proofs.lemmas.List.{map-append}
use Rattle.std.proofs.lemmas.List.Sums.{fold-append}
use Rattle.std.proofs.lemmas.List.Elements.{All-map}
use Rattle.std.proofs.lemmas.Option.{slice_get-map, slice_get_within, get_or_from_slice_get}
use Rattle.sc_term.specs.Term.{largest}
use Rattle.sc_term.specs.declared.symbol.Symbol.{Symbol}
use Rattle.sc_cells.specs.declared.cells.Cell.{Cell}
use Rattle.sc_cells.specs.Cells.{Entry, IsCell, AreCells, cell_at}
use Rattle.sc_cells.specs.Listing.{digits}
use Rattle.sc_cells.proofs.DigitLaws.{digits_of_place}
use Rattle.sc_least.specs.Bound.{used_by_value, used, above, first_unused, bound_as, bound_by, bound_of, least_number}
use Rattle.sc_least.proofs.PermutedLaws.{none_is_not}

-- ---- lists

more_from : (a : ℕ) (es : List ℕ) → fold max (a + 1) (map (λ e. e + 1) es) ≡ fold max a es + 1
more_from a [] = refl
more_from a (e ∷ es) =
    let one : max (a + 1) (e + 1) ≡ max a e + 1 = omega arith in
    ap (λ n. fold max n (map (λ e. e + 1) es)) one ∙ more_from (max a e) es

pub first_unused_is : (size : ℕ) (es : List ℕ) → first_unused size es ≡ min (size - 1) (above es)
first_unused_is size [] = let none : 0 ≡ min (size - 1) 0 = omega arith in none
first_unused_is size (e ∷ es) =
    let first : max 0 (e + 1) ≡ max 0 e + 1 = omega arith in
    let turned : 1 + largest (e ∷ es) ≡ fold max (max 0 e) es + 1 = omega arith in
    let all : above (e ∷ es) ≡ fold max (max 0 e) es + 1 = ap (λ n. fold max n (map (λ k. k + 1) es)) first ∙ more_from (max 0 e) es in
    ap (λ n. min (size - 1) n) (turned ∙ sym all)

greatest_from : (a : ℕ) (ns : List ℕ) → fold max a ns ≡ max a (fold max 0 ns)
greatest_from a [] = let none : a ≡ max a 0 = omega arith in none
greatest_from a (n ∷ ns) =
    let same : max (max a n) (fold max 0 ns) ≡ max a (max (max 0 n) (fold max 0 ns)) = omega arith in
    greatest_from (max a n) ns ∙ same ∙ ap (λ m. max a m) (sym (greatest_from (max 0 n) ns))

pub above_append : (xs ys : List ℕ) → above (xs ++ ys) ≡ max (above xs) (above ys)
above_append xs ys =
    ap largest (map-append (λ e. e + 1) xs ys) ∙ fold-append max 0 (map (λ e. e + 1) xs) (map (λ e. e + 1) ys)
    ∙ greatest_from (above xs) (map (λ e. e + 1) ys)

-- ---- digits

one_less : (len i : ℕ) → i < len → len - i ≡ suc (len - (i + 1))
one_less len i h = omega arith

pub digits_more : (base len i most rest all : ℕ) → i < len → max most (above (digits base (len - i) rest)) ≡ all
    → max (max most (rest % base + 1)) (above (digits base (len - (i + 1)) (rest / base))) ≡ all
digits_more base len i most rest all lt e =
    let front = digits base (len - (i + 1)) (rest / base) in
    let one : above (digits base (len - i) rest) ≡ max (above front) (max 0 (rest % base + 1))
    = ap (λ n. above (digits base n rest)) (one_less len i lt) ∙ above_append front ((rest % base) ∷ []) in
    omega (arith, e, one)

pub digits_all : (base len i most rest all : ℕ) → len ≤ i → max most (above (digits base (len - i) rest)) ≡ all → most ≡ all
digits_all base len i most rest all h e =
    let none : len - i ≡ 0 = omega arith in
    let no_digits : above (digits base (len - i) rest) ≡ 0 = ap (λ n. above (digits base n rest)) none in
    omega (arith, e, no_digits)

there : {A : Type 0} (P : A → Type 0) (o : Option A) → IsSomeAnd o P → (x : A) × (o ≡ Some x) × P x
there P None h = absurd h
there P (Some x) h = (x, refl, h)

same_some : {A : Type 0} (a b : A) → ◌≡◌ {A = Option A} (Some a) (Some b) → a ≡ b
same_some a b e = cc

-- the digits of a cell's place are its indices
pub indices_of : (sig : List Symbol) (size : ℕ) (cell : Cell) (s : Symbol) (entry : Entry) → slice_get sig cell.sym.0 ≡ Some s → IsCell sig size entry → cell ≡ cell_at size entry
    → digits size s.arity cell.place ≡ entry.indices
indices_of sig size cell s entry at is same =
    let t = there (λ (s : Symbol). length entry.indices ≡ s.arity) (slice_get sig entry.symbol) is.1 in
    let one : t.0 ≡ s = same_some t.0 s (sym t.1 ∙ ap (λ (c : Cell). slice_get sig c.sym.0) (sym same) ∙ at) in
    let long : length entry.indices ≡ s.arity = t.2 ∙ ap (λ (s : Symbol). s.arity) one in
    ap (λ (c : Cell). digits size s.arity c.place) same ∙ digits_of_place size s.arity entry.indices long is.2

-- ---- what is used

used_from : (sig : List Symbol) (entries : List Entry) (values : List ℕ) (i : ℕ) (entry : Entry) (v : ℕ) → slice_get entries i ≡ Some entry → slice_get values i ≡ Some v
    → above (used sig (drop i entries) (drop i values))
    ≡ max (max (above entry.indices) (above (used_by_value sig entry v))) (above (used sig (drop (suc i) entries) (drop (suc i) values)))
used_from sig [] values i entry v at has = none_is_not entry at
used_from sig (c ∷ cs) [] i entry v at has = none_is_not v has
used_from sig (c ∷ cs) (w ∷ ws) zero entry v at has =
    let same : c ≡ entry = cc in
    let value : w ≡ v = cc in
    let rest = above (used sig cs ws) in
    let put : max (above c.indices) (max (above (used_by_value sig c w)) rest) ≡ max (max (above c.indices) (above (used_by_value sig c w))) rest = omega arith in
    let here : above (used sig (c ∷ cs) (w ∷ ws)) ≡ max (max (above c.indices) (above (used_by_value sig c w))) rest
    = above_append c.indices (used_by_value sig c w ++ used sig cs ws)
    ∙ ap (λ n. max (above c.indices) n) (above_append (used_by_value sig c w) (used sig cs ws)) ∙ put in
    here ∙ ap (λ n. max (max (above c.indices) (above (used_by_value sig c n))) rest) value
    ∙ ap (λ (x : Entry). max (max (above x.indices) (above (used_by_value sig x v))) rest) same
used_from sig (c ∷ cs) (w ∷ ws) (suc i) entry v at has = used_from sig cs ws i entry v at has

pub used_more : (sig : List Symbol) (entries : List Entry) (values : List ℕ) (i next most : ℕ) (entry : Entry) (v whole : ℕ) → next ≡ suc i
    → slice_get entries i ≡ Some entry → slice_get values i ≡ Some v → max most (above (used sig (drop i entries) (drop i values))) ≡ whole
    → max (max most (max (above entry.indices) (above (used_by_value sig entry v)))) (above (used sig (drop next entries) (drop next values))) ≡ whole
used_more sig entries values i next most entry v whole is at has e =
    let one = used_from sig entries values i entry v at has in
    let so_far : max (max most (max (above entry.indices) (above (used_by_value sig entry v)))) (above (used sig (drop (suc i) entries) (drop (suc i) values))) ≡ whole
    = omega (arith, one, e) in
    ap (λ n. max (max most (max (above entry.indices) (above (used_by_value sig entry v)))) (above (used sig (drop n entries) (drop n values)))) is ∙ so_far

pub used_last : (sig : List Symbol) (entries : List Entry) (values : List ℕ) (i : ℕ) (entry : Entry) → i ≡ length values → slice_get entries i ≡ Some entry
    → used sig (drop i entries) (drop i values) ≡ entry.indices
used_last sig [] values i entry e at = none_is_not entry at
used_last sig (c ∷ cs) [] zero entry e at = let same : c ≡ entry = cc in ap (λ (x : Entry). x.indices) same
used_last sig (c ∷ cs) [] (suc i) entry e at = absurd (omega (arith, e))
used_last sig (c ∷ cs) (w ∷ ws) zero entry e at = absurd (omega (arith, e))
used_last sig (c ∷ cs) (w ∷ ws) (suc i) entry e at = used_last sig cs ws i entry (omega (arith, e)) at

-- ---- cells in a list

pub entry_there : (size : ℕ) (entries : List Entry) (k : ℕ) (cell : Cell) → slice_get (map (cell_at size) entries) k ≡ Some cell → (entry : Entry) × (slice_get entries k ≡ Some entry) × (cell ≡ cell_at size entry)
entry_there size entries k cell at = by (slice_get entries k) (sym (slice_get-map (cell_at size) entries k) ∙ at)
  where
    by : (o : Option Entry) → option_map (cell_at size) o ≡ Some cell → (entry : Entry) × (o ≡ Some entry) × (cell ≡ cell_at size entry)
    by None e = none_is_not cell e
    by (Some entry) e = (entry, refl, sym (same_some (cell_at size entry) cell e))

pub is_cell : (sig : List Symbol) (size : ℕ) (entries : List Entry) (k : ℕ) (entry : Entry) → AreCells sig size entries → slice_get entries k ≡ Some entry → IsCell sig size entry
is_cell sig size entries k entry are at = subst (IsCell sig size) (get_or_from_slice_get entries k entry entry at) (are.only k entry (slice_get_within entries k entry at))

pub symbols_there : (sig : List Symbol) (size : ℕ) (entries : List Entry) (cells : List Cell) → AreCells sig size entries → cells ≡ map (cell_at size) entries
    → All (λ (cell : Cell). cell.sym.0 < length sig) cells
symbols_there sig size entries cells h listed = subst (All (λ (cell : Cell). cell.sym.0 < length sig)) (sym listed)
    (All-map (λ (cell : Cell). cell.sym.0 < length sig) (cell_at size) entries (λ k d lt.
    let is = h.only k d lt in
    let s = there (λ (s : Symbol). length (get_or entries k d).indices ≡ s.arity) (slice_get sig (get_or entries k d).symbol) is.1 in
    slice_get_within sig (get_or entries k d).symbol s.0 s.1))

-- the bound by the symbol of the next cell
pub bound_at : (sig : List Symbol) (size : ℕ) (entries : List Entry) (values : List ℕ) (cells : List Cell) (cell : Cell) (s : Symbol) → cells ≡ map (cell_at size) entries
    → slice_get cells (length values) ≡ Some cell → slice_get sig cell.sym.0 ≡ Some s → least_number sig size entries values ≡ bound_as s.role size (used sig entries values)
bound_at sig size entries values cells cell s listed at is =
    let e = entry_there size entries (length values) cell (ap (λ cs. slice_get cs (length values)) (sym listed) ∙ at) in
    ap (λ o. bound_of sig size o (used sig entries values)) e.1
    ∙ ap (λ o. bound_by o size (used sig entries values)) (ap (λ (c : Cell). slice_get sig c.sym.0) (sym e.2) ∙ is)
