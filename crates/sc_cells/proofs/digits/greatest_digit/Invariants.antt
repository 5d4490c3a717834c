use Rattle.std.proofs.Common.{◌≡◌, ◌-◌, max}
use Rattle.sc_term.specs.Term.{largest}
use Rattle.sc_cells.specs.Listing.{digits}
use Rattle.sc_cells.proofs.digits.greatest_digit.Given as goal

abbrev pub invariant-loop-digit : goal.invariant-loop-digit
invariant-loop-digit l = max l.greatest (largest (digits l.base (l.len - l._digit) l.rest)) ≡ largest (digits l.base l.len l.number)
