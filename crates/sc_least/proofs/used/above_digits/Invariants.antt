use Rattle.std.proofs.Common.{◌≡◌, ◌-◌, max}
use Rattle.sc_cells.specs.Listing.{digits}
use Rattle.sc_least.specs.Bound.{above}
use Rattle.sc_least.proofs.used.above_digits.Given as goal

abbrev pub invariant-loop-digit : goal.invariant-loop-digit
invariant-loop-digit l = max l.most (above (digits l.base (l.len - l._digit) l.rest)) ≡ above (digits l.base l.len l.number)
