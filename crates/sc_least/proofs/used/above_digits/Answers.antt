use Rattle.std.proofs.Common.{◌≡◌, ◌∙◌, ap, max, ◌%◌, ◌/◌, ◌-◌, ◌+◌}
use Rattle.sc_cells.specs.Listing.{digits}
use Rattle.sc_least.specs.Bound.{above}
use Rattle.sc_least.proofs.AboveLaws.{digits_more}
use Rattle.sc_least.proofs.used.above_digits.Goals as goal

pub loop-digit-preserved : goal.loop-digit-preserved
loop-digit-preserved c =
    let most : c.max-most.result ≡ max c.loop-digit.most (c.loop-digit.rest % c.args.base + 1)
    = c.max-most.ensures ∙ ap (λ d. max c.loop-digit.most (d + 1)) (c.from-in-loop-digit.ensures ∙ ap (λ b. c.loop-digit.rest % b) c.from.ensures) in
    (λ j. max (most j) (above (digits c.args.base (c.args.len - (c.loop-digit._digit + 1)) (c.loop-digit.rest / c.from-rest.ensures j))))
    ∙ digits_more c.args.base c.args.len c.loop-digit._digit c.loop-digit.most c.loop-digit.rest (above (digits c.args.base c.args.len c.args.number))
    c.loop-digit-test.true c.loop-digit.invariant
