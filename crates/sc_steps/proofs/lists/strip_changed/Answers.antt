use Rattle.std.proofs.Common.{◌∙◌, ap, ◌++◌, ◌-◌, arith}
use Rattle.sc_steps.proofs.ChangedElement.{back_range, begins_changed, no_front, no_back}
use Rattle.sc_steps.proofs.lists.strip_changed.Goals as goal

pub returns-in_err-after-clause-none : goal.returns-in_err-after-clause-none
returns-in_err-after-clause-none c =
    rw c.from_residual.ensures
    (no_front c.args.all.now c.args.items.now (c.args.n - 1) (omega (arith, c.requires.there, c.requires.within)) c.in_err-after.ensures.none)

pub returns-in_err-rest-clause-none : goal.returns-in_err-rest-clause-none
returns-in_err-rest-clause-none c =
    let none = rw (back_range c.args.items.now (c.args.n - 1)) at c.in_err-rest.ensures.none in
    rw c.from_residual-in_err-rest.ensures
    (no_back c.args.all.now c.args.items.now c.in_ok-after.after.now c.in_ok-changed.behind.now (c.args.n - 1) c.in_ok-changed.changed.now
    (omega (arith, c.requires.there, c.requires.within)) c.in_ok-after.ensures.found c.in_ok-changed.ensures.cases.0 none)

pub returns-clause-found : goal.returns-clause-found
returns-clause-found c =
    let rest = c.in_ok-rest.rest.now in
    begins_changed c.args.all.now c.args.items.now c.in_ok-after.after.now c.in_ok-changed.behind.now rest (c.args.n - 1) c.in_ok-changed.changed.now
    (omega (arith, c.requires.there, c.requires.within)) c.in_ok-after.ensures.found c.in_ok-changed.ensures.cases.0
    (c.in_ok-rest.ensures.found ∙ ap (λ zs. zs ++ rest) (back_range c.args.items.now (c.args.n - 1)))
