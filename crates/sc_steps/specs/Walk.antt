-- What the walk over derivations keeps: the last lines in a map, and which clauses lines name.
use Rattle.std.specs.Prelude.{ℕ, List, Bool, false, Option, Some, None, nat_eq}
use Rattle.std.specs.List.{list_any}
use Rattle.std.specs.Option.{unwrap_or}
use Rattle.std.specs.Ordering.{nat_cmp}
use Rattle.std.specs.BTreeMap.{BTreeMap}
use Rattle.std.specs.BTreeMap as tree
use Rattle.sc_term.specs.declared.Line.{Line}
use Rattle.sc_steps.specs.declared.derivations.derivation.Derived.{Derived}
use Rattle.sc_steps.specs.Splice.{named_by}

-- the last line of clause n, 0 where the map has none
abbrev pub last_in : BTreeMap ℕ ℕ → ℕ → ℕ
last_in map n = unwrap_or (tree.get nat_cmp map n) 0

abbrev pub is_number : Option ℕ → ℕ → Bool
is_number None m = false
is_number (Some n) m = nat_eq m n

-- whether one of the lines is `input m`
abbrev pub names : List Line → ℕ → Bool
names lines m = list_any (λ (line : Line). is_number (named_by line.step) m) lines

-- whether the derivation names clause m
abbrev pub names_of : Option Derived → ℕ → Bool
names_of None m = false
names_of (Some d) m = names d.lines m
