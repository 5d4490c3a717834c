-- The steps of the search for a model.
use Rattle.std.proofs.Common.{◌≡◌, sym, subst, ℕ, zero, suc, ◌+◌, ◌<◌, ◌≤◌, ◌⊎◌, inl, inr, List, [], ◌∷◌, ◌++◌, length, slice_get, Option, Some, None, min, arith}
use Rattle.std.specs.List.{All}
use Rattle.std.proofs.lemmas.List.{length-append, append_assoc}
use Rattle.sc_input_rules.specs.WellFormed.{IsOver}
use Rattle.sc_cells.specs.Cells.{Entry, AreCells, IsConsistent, values_below}
use Rattle.sc_cells.specs.Order.{IsBefore}
use Rattle.sc_least.specs.Bound.{least_number}
use Rattle.sc_least.specs.Full.{IsFull as IsWhole}
use Rattle.sc_least.proofs.BoundLaws.{begins_within}
use Rattle.sc_find.specs.Models.{Task, IsInPiece, IsOpenPrefix, IsModel, ExceedsBudget}
use Rattle.sc_find.specs.Search.{first_of, end_of}
use Rattle.sc_find.proofs.SearchLaws.{IsSearch, GoesOnBelow}
use Rattle.sc_find.proofs.SearchLaws as laws
use Rattle.sc_find.proofs.OpenLaws.{IsAllowed, open_front, open_more, open_none, last_below, last_allowed}

-- no value before the piece's first is next
abbrev pub IsLow : Option ℕ → List ℕ → ℕ → Type 0
IsLow None values next = Unit {0}
IsLow (Some v) [] next = min v 8 ≤ next
IsLow (Some v) (x ∷ xs) next = Unit {0}

allowed : (piece : Option ℕ) (values : List ℕ) (next count bound : ℕ) → IsLow piece values next → count ≤ 8 → next < end_of piece (length values) count bound → IsAllowed piece values next
allowed None [] next count bound low few lt = tt
allowed None (x ∷ xs) next count bound low few lt = tt
allowed (Some v) [] next count bound low few lt = omega (arith, low, lt)
allowed (Some v) (x ∷ xs) next count bound low few lt = tt

pub before_end : (piece : Option ℕ) (k next count bound : ℕ) → next < end_of piece k count bound → next < count
before_end None k next count bound lt = omega (arith, lt)
before_end (Some v) zero next count bound lt = omega (arith, lt)
before_end (Some v) (suc k) next count bound lt = omega (arith, lt)

-- the next cell is that of the piece, whose value is tried
abbrev IsFixed : Option ℕ → List ℕ → Type 0
IsFixed piece values = (k count bound : ℕ) → k < count → IsAllowed piece values k → k < end_of piece (length values) count bound

-- it is any other: values go as far as its bound, and the piece asks for nothing more
abbrev IsBounded : Option ℕ → List ℕ → Type 0
IsBounded piece values =
    ((k count bound : ℕ) → k < count → k ≤ bound → k < end_of piece (length values) count bound)
    × ((xs ys : List ℕ) → IsInPiece piece (values ++ xs) → IsInPiece piece (values ++ ys))

fixed_or_bounded : (piece : Option ℕ) (values : List ℕ) → IsFixed piece values ⊎ IsBounded piece values
fixed_or_bounded None values = inr (λ k count bound lt le. omega (arith, lt, le), λ xs ys h. tt)
fixed_or_bounded (Some v) [] = inl (λ k count bound lt a. omega (arith, lt, a))
fixed_or_bounded (Some v) (x ∷ xs) = inr (λ k count bound lt le. omega (arith, lt, le), λ ys zs h. h)

low_first : (piece : Option ℕ) → IsLow piece [] (first_of piece)
low_first None = tt
low_first (Some v) = omega arith

low_more : (piece : Option ℕ) (values : List ℕ) (next : ℕ) → IsLow piece values next → IsLow piece values (next + 1)
low_more None values next h = tt
low_more (Some v) [] next h = omega (arith, h)
low_more (Some v) (x ∷ xs) next h = tt

low_deeper : (piece : Option ℕ) (values : List ℕ) (k next : ℕ) → IsLow piece (values ++ k ∷ []) next
low_deeper None values k next = tt
low_deeper (Some v) [] k next = tt
low_deeper (Some v) (x ∷ xs) k next = tt

low_back : (piece : Option ℕ) (values : List ℕ) (k : ℕ) → IsInPiece piece (values ++ k ∷ []) → IsLow piece values (k + 1)
low_back None values k h = tt
low_back (Some v) [] k h = omega (arith, h)
low_back (Some v) (x ∷ xs) k h = tt

first_few : (piece : Option ℕ) → first_of piece ≤ 8
first_few None = omega arith
first_few (Some v) = omega arith

module _ (task : Task) (piece : Option ℕ) (cells : List Entry) where
  abbrev Open : List ℕ → Type 0
  Open values = IsOpenPrefix task piece cells values

  shorter : (xs ys : List ℕ) → Open (xs ++ ys) → Open xs
  shorter = open_front task piece cells

  pub record IsSearching (values : List ℕ) (next count : ℕ) : Type 0 where
    pub search : IsSearch (length cells) (IsOpenPrefix task piece cells) values next count
    pub low : IsLow piece values next
    pub most : next ≤ 8

  pub starts : IsConsistent task.clauses task.size (record { cells = cells; values = [] }) → IsSearching [] (first_of piece) 0
  starts h = record {
    search = laws.at_first (length cells) Open shorter (first_of piece) (open_none task piece cells h) (λ k o. least piece k (last_allowed task piece cells [] k o));
    low = low_first piece;
    most = first_few piece;
  }
    where
      least : (piece : Option ℕ) (k : ℕ) → IsAllowed piece [] k → first_of piece ≤ k
      least None k a = omega arith
      least (Some v) k a = omega (arith, a)

  -- a value of the next cell that can be tried
  pub record IsNext (values : List ℕ) (next count : ℕ) (cell : Entry) : Type 0 where
    pub searching : IsSearching values next count
    pub at : slice_get cells (length values) ≡ Some cell
    pub within : length values < length cells
    pub few : values_below task.sig task.size cell ≤ 8
    pub below : next < end_of piece (length values) (values_below task.sig task.size cell) (least_number task.sig task.size cells values)

  opens : (values : List ℕ) (next count : ℕ) (cell : Entry) → IsNext values next count cell
      → IsConsistent task.clauses task.size (record { cells = cells; values = values ++ next ∷ [] }) → Open (values ++ next ∷ [])
  opens values next count cell h consistent =
      open_more task piece cells values cell next h.searching.search.holds h.at h.within (before_end piece (length values) next (values_below task.sig task.size cell) (least_number task.sig task.size cells values) h.below)
      (allowed piece values next (values_below task.sig task.size cell) (least_number task.sig task.size cells values) h.searching.low h.few h.below) consistent

  pub entered : (values : List ℕ) (next count : ℕ) (cell : Entry) → IsNext values next count cell
      → IsConsistent task.clauses task.size (record { cells = cells; values = values ++ next ∷ [] }) → IsSearching (values ++ next ∷ []) 0 (count + 1)
  entered values next count cell h consistent = record {
    search = laws.taken (length cells) Open values next count h.searching.search h.within (opens values next count cell h consistent);
    low = low_deeper piece values next 0;
    most = omega arith;
  }

  pub spent : (values : List ℕ) (next count : ℕ) (cell : Entry) → AreCells task.sig task.size cells → IsNext values next count cell
      → IsConsistent task.clauses task.size (record { cells = cells; values = values ++ next ∷ [] }) → ExceedsBudget task piece count
  spent values next count cell are h consistent =
      let more = laws.exceeds (length cells) Open values next count h.searching.search h.within (opens values next count cell h consistent) in
      record { cells = cells; are_cells = are; nodes = more.entered; rising = more.rising; only = more.only; many = more.many }

  pub refused : (values : List ℕ) (next count : ℕ) (cell : Entry) → IsNext values next count cell
      → ¬ IsConsistent task.clauses task.size (record { cells = cells; values = values ++ next ∷ [] }) → IsSearching values (next + 1) count
  refused values next count cell h never = record {
    search = laws.refused (length cells) Open shorter values next count h.searching.search (λ o. never o.consistent);
    low = low_more piece values next h.searching.low;
    most = omega (arith, before_end piece (length values) next (values_below task.sig task.size cell) (least_number task.sig task.size cells values) h.below, h.few);
  }

  -- every value of the next cell was tried, up to its bound
  pub record IsTried (values : List ℕ) (next : ℕ) (cell : Entry) : Type 0 where
    pub at : slice_get cells (length values) ≡ Some cell
    pub within : length values < length cells
    pub all : end_of piece (length values) (values_below task.sig task.size cell) (least_number task.sig task.size cells values) ≤ next

  as_full : (values : List ℕ) → IsModel task piece cells values → IsWhole task.sig task.clauses task.size cells values
  as_full values m = record { many = m.0; in_range = m.1.in_range; consistent = m.1.consistent }

  as_model : (values : List ℕ) → IsInPiece piece values → IsWhole task.sig task.clauses task.size cells values → IsModel task piece cells values
  as_model values in_piece h =
      let many = h.many in
      (many, record { no_longer = omega (arith, many); in_range = h.in_range; in_piece = in_piece; consistent = h.consistent })

  -- the first value behind the front of a model
  behind_front : (values : List ℕ) (k : ℕ) (more : List ℕ) → IsModel task piece cells (values ++ k ∷ more) → Open (values ++ k ∷ [])
  behind_front values k more m = shorter (values ++ k ∷ []) more (subst (IsOpenPrefix task piece cells) (sym (append_assoc values (k ∷ []) more)) m.1)

  pub goes_on_below : (values : List ℕ) (next : ℕ) (cell : Entry) → AreCells task.sig task.size cells → All (IsOver task.sig) task.clauses → IsTried values next cell
      → GoesOnBelow (length cells) (IsOpenPrefix task piece cells) values next
  goes_on_below values next cell are over h m full behind = by behind.0 (fixed_or_bounded piece values) (subst (IsModel task piece cells) behind.1 full)
    where
      by : (rest : List ℕ) → IsFixed piece values ⊎ IsBounded piece values → IsModel task piece cells (values ++ rest)
          → (k : ℕ) × (more : List ℕ) × (k < next) × IsModel task piece cells (values ++ k ∷ more)
      by [] which model =
          let shorter_than = h.within in
          let long = model.0 in
          let joined = length-append values (let none : List ℕ = [] in none) in
          absurd (omega (arith, shorter_than, long, joined))
      by (k ∷ more) (inl fixed) model =
          let front = behind_front values k more model in
          let below = fixed k (values_below task.sig task.size cell) (least_number task.sig task.size cells values) (last_below task piece cells values cell k h.at front) (last_allowed task piece cells values k front) in
          let all = h.all in
          (k, more, omega (arith, below, all), model)
      by (x ∷ rest) (inr bounded) model =
          let one = begins_within task.sig task.clauses task.size cells values (x ∷ rest) are over h.within (as_full (values ++ x ∷ rest) model) in
          let other = as_model (values ++ one.0 ∷ one.1) (bounded.1 (x ∷ rest) (one.0 ∷ one.1) model.1.in_piece) one.3 in
          let front = behind_front values one.0 one.1 other in
          let below = bounded.0 one.0 (values_below task.sig task.size cell) (least_number task.sig task.size cells values) (last_below task piece cells values cell one.0 h.at front) one.2 in
          let all = h.all in
          (one.0, one.1, omega (arith, below, all), other)

  pub undone : (values : List ℕ) (v next count : ℕ) (cell : Entry) → v < 8 → AreCells task.sig task.size cells → All (IsOver task.sig) task.clauses
      → IsSearching (values ++ v ∷ []) next count → IsTried (values ++ v ∷ []) next cell → IsSearching values (v + 1) count
  undone values v next count cell small are over s h = record {
    search = laws.undone (length cells) Open shorter values v next count s.search h.within (goes_on_below (values ++ v ∷ []) next cell are over h);
    low = low_back piece values v s.search.holds.in_piece;
    most = omega (arith, small);
  }

  pub exhausted : (next count : ℕ) (cell : Entry) → AreCells task.sig task.size cells → All (IsOver task.sig) task.clauses
      → IsSearching [] next count → IsTried [] next cell → (values : List ℕ) → ¬ IsModel task piece cells values
  exhausted next count cell are over s h values m = laws.none (length cells) Open next count s.search (goes_on_below [] next cell are over h) values m

  pub full : (values : List ℕ) (next count : ℕ) → IsSearching values next count → length cells ≤ length values
      → IsModel task piece cells values × ((others : List ℕ) → IsModel task piece cells others → ¬ IsBefore others values)
  full values next count s all = laws.found (length cells) Open values next count s.search all

  -- the value on top is one that its cell may have
  pub top_below : (values : List ℕ) (v next count : ℕ) (cell : Entry) → IsSearching (values ++ v ∷ []) next count → slice_get cells (length values) ≡ Some cell
      → v < values_below task.sig task.size cell
  top_below values v next count cell s at = last_below task piece cells values cell v at s.search.holds
