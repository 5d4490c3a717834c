use Rattle.sc_find_given.proofs.DigitLaws.{AreDigits}
use Rattle.sc_find_given.proofs.number.digits.Given as goal

abbrev pub invariant-loop-digit : goal.invariant-loop-digit
invariant-loop-digit l = AreDigits l.fn.base l.fn.count l.fn.number l._digit l.digits.items l.rest
