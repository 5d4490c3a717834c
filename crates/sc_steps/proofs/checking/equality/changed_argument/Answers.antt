use Rattle.std.proofs.Common.{◌≡◌, ◌∙◌, sym, ap, ◌-◌, length, set, arith, refl}
use Rattle.sc_steps.proofs.ChangedElement.{back_range, changed_by_parts}
use Rattle.sc_steps.proofs.checking.equality.changed_argument.Goals as goal

pub returns-then-same_terms-2-clause-found : goal.returns-then-same_terms-2-clause-found
returns-then-same_terms-2-clause-found c =
    let args = c.args.args.now in
    let all = c.args.all.now in
    let at = c.args.n - 1 in
    let one = c.index-all-at.result in
    let long : length all ≡ length args = omega (arith, c.if-all-args.false) in
    let back = rw (back_range args at, back_range all at) at (c.if-same_terms-2.ensures.0 refl) in
    changed_by_parts args all at one (omega (arith, c.requires.there, c.requires.within)) long (c.if-same_terms.ensures.0 refl) back
    ∙ ap (set args at) (sym c.index-all-at.is)
