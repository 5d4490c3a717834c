-- The terms that take a clause to its canonical form.
use Rattle.std.specs.Prelude.{ℕ, List, length, nat_eq, nat_lt, if◌then◌else◌}
use Rattle.std.specs.List.{position_or_len}

-- how many of the list stand before the number, 0 where it isn't there
abbrev pub place_in : List ℕ → ℕ → ℕ
place_in order n = if nat_lt (position_or_len (nat_eq n) order) (length order) then position_or_len (nat_eq n) order else 0
