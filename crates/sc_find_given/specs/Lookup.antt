-- The values of terms from rows that say, for the place of each entry of a symbol, the number of its cell.
use Rattle.std.specs.Prelude.{◌≡◌, ℕ, List, Option, Some, None, Bool, not, map, nat_eq, nat_lt, length, slice_get, option_map, if◌then◌else◌}
use Rattle.std.specs.List.{list_all}
use Rattle.sc_term.specs.declared.SymId.{SymId}
use Rattle.sc_term.specs.declared.Term.{Term, fold-Term}
use Rattle.sc_term.specs.declared.Term.TheOpen.{Term-F}
use Rattle.sc_term.specs.declared.Term.TheOpen as at
use Rattle.sc_term.specs.declared.Literal.{Literal}
use Rattle.sc_term.specs.Interpretation.{Assignment, are_equal}
use Rattle.sc_term.specs.Numbering.{numbered}
use Rattle.sc_interp.specs.Structure.{place_of}
use Rattle.sc_cells.specs.Cells.{all_given}
use Rattle.sc_find_given.specs.declared.row.Row.{Row}

-- the place of arguments that are elements
abbrev pub place_in : ℕ → Option (List ℕ) → Option ℕ
place_in size None = None
place_in size (Some args) = if list_all (λ v. nat_lt v size) args then Some (place_of size args) else None

-- the number in a symbol's row for so many arguments, at a place
abbrev pub number_in : Option Row → ℕ → Option ℕ → Option ℕ
number_in None count place = None
number_in (Some row) count None = None
number_in (Some row) count (Some place) = if nat_eq count row.arity then slice_get row.numbers place else None

-- the number in the rows for the symbol with these arguments
abbrev pub number_for : ℕ → List Row → SymId → List ℕ → Option ℕ
number_for size rows f args = number_in (numbered rows f.0) (length args) (place_in size (Some args))

-- the value of the cell of that number
abbrev pub value_at : List ℕ → Option ℕ → Option ℕ
value_at given None = None
value_at given (Some n) = slice_get given n

-- the value of the symbol's entry for these arguments
abbrev pub look_up : ℕ → List Row → List ℕ → SymId → Option (List ℕ) → Option ℕ
look_up size rows given f None = None
look_up size rows given f (Some args) = value_at given (number_for size rows f args)

abbrev pub found_step : (SymId → Option (List ℕ) → Option ℕ) → Assignment → Term-F (Option ℕ) → Option ℕ
found_step look a (at.Var n) = Some (a n)
found_step look a (at.App f values) = look f (all_given values)

-- the value of the term where entries are looked up so
abbrev pub found_term : (SymId → Option (List ℕ) → Option ℕ) → Assignment → Term → Option ℕ
found_term look a = fold-Term (Option ℕ) (found_step look a)

-- the values of all the terms
abbrev pub found_terms : (SymId → Option (List ℕ) → Option ℕ) → Assignment → List Term → Option (List ℕ)
found_terms look a terms = all_given (map (found_term look a) terms)

-- the truth of an atom with these values
abbrev pub found_atom : (SymId → Option (List ℕ) → Option ℕ) → SymId → Option (List ℕ) → Option Bool
found_atom look p values = if nat_eq p.0 0 then option_map are_equal values else option_map (nat_eq 1) (look p values)

-- the literal is false, and all that it reads is found
abbrev pub IsFoundFalse : (SymId → Option (List ℕ) → Option ℕ) → Assignment → Literal → Type 0
IsFoundFalse look a l = found_atom look l.pred (found_terms look a l.args) ≡ Some (not l.positive)
