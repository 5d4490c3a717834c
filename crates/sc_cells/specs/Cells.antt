-- The cells of a size, and what a list of values for the first of them decides.
use Rattle.std.specs.Prelude.{◌≡◌, ◌^◌, ◌<◌, ℕ, List, [], ◌∷◌, Option, Some, None, Bool, not, IsSomeAnd, Contains, map, take, drop, slice_get, length, nat_eq, ◌&&◌, true, false, option_map, if◌then◌else◌}
use Rattle.std.specs.List.{All, AllZip, sum_by}
use Rattle.sc_term.specs.declared.SymId.{SymId}
use Rattle.sc_term.specs.declared.Term.{Term, fold-Term}
use Rattle.sc_term.specs.declared.Term.TheOpen.{Term-F}
use Rattle.sc_term.specs.declared.Term.TheOpen as at
use Rattle.sc_term.specs.declared.Literal.{Literal}
use Rattle.sc_term.specs.declared.Clause.{Clause}
use Rattle.sc_term.specs.Term.{largest}
use Rattle.sc_term.specs.Interpretation.{Assignment, are_equal}
use Rattle.sc_term.specs.declared.symbol.Symbol.{Symbol}
use Rattle.sc_interp.specs.Structure.{place_of}
use Rattle.sc_interp.specs.Structure.{values_below as entries_below}
use Rattle.sc_cells.specs.declared.cells.Cell.{Cell}
use Rattle.sc_cells.specs.declared.cells.CellsError.{CellsError}
use Rattle.sc_cells.specs.declared.cells.CellsError.TheVariants.{TooWide, OutOfMemory}
use Rattle.sc_cells.specs.Order.{AreInOrder}

-- ---- cells

-- an entry of a symbol: the symbol's number and the arguments
pub record Entry : Type 0 where
  pub symbol : ℕ
  pub indices : List ℕ

-- the symbol is there and isn't `=`, and it has so many arguments, all of them elements
abbrev pub IsCell : List Symbol → ℕ → Entry → Type 0
IsCell sig size entry =
    (0 < entry.symbol) × IsSomeAnd (slice_get sig entry.symbol) (λ s. length entry.indices ≡ s.arity) × All (λ i. i < size) entry.indices

-- cells stand in order of the greatest argument, 0 without one, then of the symbol, then of the arguments
abbrev pub cell_numbers : Entry → List ℕ
cell_numbers entry = largest entry.indices ∷ entry.symbol ∷ entry.indices

-- they are the cells of the size, in order
abbrev pub AreCells : List Symbol → ℕ → List Entry → Type 0
AreCells sig size entries = AreInOrder cell_numbers (IsCell sig size) entries

-- how many cells there are
abbrev pub cell_count : List Symbol → ℕ → ℕ
cell_count sig size = sum_by (λ (s : Symbol). size ^ s.arity) (drop 1 sig)

-- where the entry stands in tables of the size
abbrev pub cell_at : ℕ → Entry → Cell
cell_at size entry = record { sym = record { 0 = entry.symbol }; place = place_of size entry.indices }

-- what the error says of a number of cells: nothing, where memory is wanting
abbrev pub IsCauseOfCells : ℕ → CellsError → Type 0
IsCauseOfCells cells (TooWide count) = (count ≡ cells) × (4096 < cells)
IsCauseOfCells cells OutOfMemory = Unit {0}

-- ---- values of cells

abbrev pub below_of : ℕ → Option Symbol → ℕ
below_of size None = 0
below_of size (Some s) = entries_below s.role size

-- a cell of a function may have any element, one of a predicate 0 (false) or 1 (true)
abbrev pub values_below : List Symbol → ℕ → Entry → ℕ
values_below sig size entry = below_of size (slice_get sig entry.symbol)

-- the first cells may have these values, one each
abbrev pub AreValues : List Symbol → ℕ → List Entry → List ℕ → Type 0
AreValues sig size cells values = AllZip (λ cell v. v < values_below sig size cell) (take (length values) cells) values

-- ---- evaluation from the inside

-- cells, and values for the first of them
pub record Prefix : Type 0 where
  pub cells : List Entry
  pub values : List ℕ

abbrev pub same_numbers : List ℕ → List ℕ → Bool
same_numbers [] [] = true
same_numbers [] (n ∷ ns) = false
same_numbers (m ∷ ms) [] = false
same_numbers (m ∷ ms) (n ∷ ns) = nat_eq m n && same_numbers ms ns

abbrev pub is_cell_of : SymId → List ℕ → Entry → Bool
is_cell_of f args cell = nat_eq f.0 cell.symbol && same_numbers args cell.indices

abbrev pub given_among : SymId → List ℕ → List Entry → List ℕ → Option ℕ
given_among f args [] values = None
given_among f args (cell ∷ cells) [] = None
given_among f args (cell ∷ cells) (v ∷ vs) = if is_cell_of f args cell then Some v else given_among f args cells vs

-- the value of the entry, where the arguments and the entry are given
abbrev pub given_value : Prefix → SymId → Option (List ℕ) → Option ℕ
given_value p f None = None
given_value p f (Some args) = given_among f args p.cells p.values

abbrev pub onto : Option ℕ → Option (List ℕ) → Option (List ℕ)
onto None ns = None
onto (Some n) ns = option_map (λ ms. n ∷ ms) ns

-- all the values, where each is given
abbrev pub all_given : List (Option ℕ) → Option (List ℕ)
all_given [] = Some []
all_given (v ∷ vs) = onto v (all_given vs)

abbrev pub given_step : Prefix → Assignment → Term-F (Option ℕ) → Option ℕ
given_step p a (at.Var n) = Some (a n)
given_step p a (at.App f values) = given_value p f (all_given values)

-- the value of the term, where each entry that it reads is given
abbrev pub given_term : Prefix → Assignment → Term → Option ℕ
given_term p a = fold-Term (Option ℕ) (given_step p a)

-- the truth of an atom with these values, where it is given
abbrev pub given_atom : Prefix → SymId → Option (List ℕ) → Option Bool
given_atom p f values =
    if nat_eq f.0 0 then option_map are_equal values else option_map (nat_eq 1) (given_value p f values)

-- all entries that the evaluation reads are given, and the literal is false
abbrev pub IsFalseBy : Prefix → Assignment → Literal → Type 0
IsFalseBy p a l = given_atom p l.pred (all_given (map (given_term p a) l.args)) ≡ Some (not l.positive)

-- no instance of the clauses over the elements has all its literals false
abbrev pub IsConsistent : List Clause → ℕ → Prefix → Type 0
IsConsistent clauses size p =
    (c : Clause) (a : Assignment) → Contains clauses c → ((n : ℕ) → a n < size) → ¬ All (IsFalseBy p a) c.literals
