-- Cells and instances as they are listed: by numbers and their digits, one after another.
use Rattle.std.specs.Prelude.{ℕ, zero, suc, ◌/◌, ◌%◌, ◌^◌, List, [], ◌∷◌, ◌++◌, Option, Some, None, length, nat_eq, slice_get, if◌then◌else◌}
use Rattle.sc_term.specs.declared.Clause.{Clause}
use Rattle.sc_term.specs.Clause.{width}
use Rattle.sc_term.specs.Term.{largest}
use Rattle.sc_term.specs.declared.symbol.Symbol.{Symbol}
use Rattle.sc_cells.specs.declared.instances.GroundInstance.{GroundInstance}
use Rattle.sc_cells.specs.Cells.{Entry}

-- so many digits of a number in a base, the least one last
abbrev pub digits : ℕ → ℕ → ℕ → List ℕ
digits base zero number = []
digits base (suc len) number = digits base len (number / base) ++ (number % base) ∷ []

-- the lists for the numbers below n, one after another
abbrev pub in_turn : {X : Type 0} → (ℕ → List X) → ℕ → List X
in_turn list zero = []
in_turn list (suc n) = in_turn list n ++ list n

-- ---- cells

-- the entry at a place, where that is the greatest of its arguments
abbrev pub entry_where : ℕ → ℕ → ℕ → ℕ → ℕ → List Entry
entry_where size greatest symbol arity place =
    if nat_eq (largest (digits size arity place)) greatest then record { symbol = symbol; indices = digits size arity place } ∷ [] else []

-- the entries of a symbol of that arity whose greatest argument is that
abbrev pub symbol_entries : ℕ → ℕ → ℕ → ℕ → List Entry
symbol_entries size greatest symbol arity = in_turn (entry_where size greatest symbol arity) (size ^ arity)

abbrev pub entries_if : ℕ → ℕ → ℕ → Option Symbol → List Entry
entries_if size greatest symbol None = []
entries_if size greatest symbol (Some s) = symbol_entries size greatest symbol s.arity

-- those of the symbol of a number, of which `=` has none
abbrev pub entries_at : List Symbol → ℕ → ℕ → ℕ → List Entry
entries_at sig size greatest symbol = if nat_eq symbol 0 then [] else entries_if size greatest symbol (slice_get sig symbol)

-- those of all symbols
abbrev pub entries_with : List Symbol → ℕ → ℕ → List Entry
entries_with sig size greatest = in_turn (entries_at sig size greatest) (length sig)

abbrev pub all_entries : List Symbol → ℕ → List Entry
all_entries sig size = in_turn (entries_with sig size) size

-- ---- instances

-- the instance whose elements are the digits of the number
abbrev pub instance_with : ℕ → ℕ → ℕ → ℕ → GroundInstance
instance_with size place wide number = record { place = place; values = digits size wide number }

-- the instances of the clause at a place
abbrev pub instances_of : ℕ → ℕ → Clause → List GroundInstance
instances_of size place c = in_turn (λ number. instance_with size place (width c) number ∷ []) (size ^ width c)

abbrev pub instances_if : ℕ → ℕ → Option Clause → List GroundInstance
instances_if size place None = []
instances_if size place (Some c) = instances_of size place c

abbrev pub instances_at : List Clause → ℕ → ℕ → List GroundInstance
instances_at clauses size place = instances_if size place (slice_get clauses place)

abbrev pub all_instances : List Clause → ℕ → List GroundInstance
all_instances clauses size = in_turn (instances_at clauses size) (length clauses)
