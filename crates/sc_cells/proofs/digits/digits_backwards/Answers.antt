use Rattle.std.proofs.Common.{◌∙◌, ap, reverse, [], ◌∷◌, ◌++◌, ◌%◌, ◌/◌, ◌-◌, ◌+◌}
use Rattle.sc_cells.specs.Listing.{digits}
use Rattle.sc_cells.proofs.DigitLaws.{digit_more}
use Rattle.sc_cells.proofs.digits.digits_backwards.Goals as goal

pub loop-digit-preserved : goal.loop-digit-preserved
loop-digit-preserved c =
    (λ j. digits c.args.base (c.args.len - (c.loop-digit._digit + 1)) (c.loop-digit.rest / c.from-rest.ensures j) ++ reverse c.push.new.self.items)
    ∙ digit_more c.args.base c.args.len c.loop-digit._digit c.loop-digit.rest c.loop-digit.found.items c.push.new.self.items (digits c.args.base c.args.len c.args.number)
    c.loop-digit-test.true c.loop-digit.invariant
    (c.in_ok-push.ensures.items ∙ ap (λ b. c.loop-digit.found.items ++ (c.loop-digit.rest % b) ∷ []) c.from.ensures)
