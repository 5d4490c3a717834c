use Rattle.std.proofs.Common.{◌≡◌, ◌∙◌, ap, max, ◌%◌, ◌/◌, ◌-◌, ◌+◌}
use Rattle.sc_term.specs.Term.{largest}
use Rattle.sc_cells.specs.Listing.{digits}
use Rattle.sc_cells.proofs.DigitLaws.{greatest_more}
use Rattle.sc_cells.proofs.digits.greatest_digit.Goals as goal

pub loop-digit-preserved : goal.loop-digit-preserved
loop-digit-preserved c =
    let greatest : c.max-greatest.result ≡ max c.loop-digit.greatest (c.loop-digit.rest % c.args.base)
    = c.max-greatest.ensures ∙ ap (λ b. max c.loop-digit.greatest (c.loop-digit.rest % b)) c.from.ensures in
    (λ j. max (greatest j) (largest (digits c.args.base (c.args.len - (c.loop-digit._digit + 1)) (c.loop-digit.rest / c.from-rest.ensures j))))
    ∙ greatest_more c.args.base c.args.len c.loop-digit._digit c.loop-digit.greatest c.loop-digit.rest (largest (digits c.args.base c.args.len c.args.number))
    c.loop-digit-test.true c.loop-digit.invariant
