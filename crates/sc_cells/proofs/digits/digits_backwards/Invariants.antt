use Rattle.std.proofs.Common.{◌≡◌, ◌-◌, ◌++◌, reverse}
use Rattle.sc_cells.specs.Listing.{digits}
use Rattle.sc_cells.proofs.digits.digits_backwards.Given as goal

abbrev pub invariant-loop-digit : goal.invariant-loop-digit
invariant-loop-digit l = digits l.base (l.len - l._digit) l.rest ++ reverse l.found.items ≡ digits l.base l.len l.number
