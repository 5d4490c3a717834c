use Rattle.std.proofs.Common.{◌≡◌, ◌∙◌, sym, ap, subst, ◌<◌, ◌-◌, length, min, get_or, arith}
use Rattle.std.proofs.lemmas.Option.{slice_get-get_or}
use Rattle.sc_cells.specs.declared.cells.Cell.{Cell}
use Rattle.sc_least.specs.Bound.{above, used, bound_as}
use Rattle.sc_least.proofs.AboveLaws.{first_unused_is, symbols_there, bound_at}
use Rattle.sc_least.proofs.bound.least_bound.Goals as goal

pub symbol-requires : goal.symbol-requires
symbol-requires c =
    let some : Cell = record { sym = record { 0 = 0 }; place = 0 } in
    let shorter = subst (λ cs. length c.args.prefix.now < length cs) (sym c.as_slice-cells.ensures) c.requires.shorter in
    symbols_there c.args.sig.now c.args.size c.requires.cells.0 c.as_slice-cells.result.now c.requires.cells.1 (c.as_slice-cells.ensures ∙ c.requires.cells.2)
    (length c.args.prefix.now) some shorter

pub above_used-requires-clause-there : goal.above_used-requires-clause-there
above_used-requires-clause-there c =
    symbols_there c.args.sig.now c.args.size c.requires.cells.0 c.as_slice-cells.result.now c.requires.cells.1 (c.as_slice-cells.ensures ∙ c.requires.cells.2)

pub returns-in-Predicate : goal.returns-in-Predicate
returns-in-Predicate c entries are listed =
    let sig = c.args.sig.now in
    let size = c.args.size in
    let values = c.args.prefix.now in
    let cells = c.as_slice-cells.result.now in
    let some : Cell = record { sym = record { 0 = 0 }; place = 0 } in
    let shorter = subst (λ cs. length values < length cs) (sym c.as_slice-cells.ensures) c.requires.shorter in
    let at = slice_get-get_or cells (length values) some shorter in
    let bound = bound_at sig size entries values cells (get_or cells (length values) some) c.symbol.result.now (c.as_slice-cells.ensures ∙ listed) at c.symbol.ensures in
    sym (bound ∙ ap (λ r. bound_as r size (used sig entries values)) c.in-Predicate.is)

pub returns-in-Function : goal.returns-in-Function
returns-in-Function c entries are listed =
    let sig = c.args.sig.now in
    let size = c.args.size in
    let values = c.args.prefix.now in
    let cells = c.as_slice-cells.result.now in
    let elements = used sig entries values in
    let some : Cell = record { sym = record { 0 = 0 }; place = 0 } in
    let shorter = subst (λ cs. length values < length cs) (sym c.as_slice-cells.ensures) c.requires.shorter in
    let at = slice_get-get_or cells (length values) some shorter in
    let bound = bound_at sig size entries values cells (get_or cells (length values) some) c.symbol.result.now (c.as_slice-cells.ensures ∙ listed) at c.symbol.ensures in
    let most : c.above_used.result ≡ above elements = c.above_used.ensures entries are (c.as_slice-cells.ensures ∙ listed) in
    let from = c.from.ensures in
    let turned : min (above elements) (size - 1) ≡ min (size - 1) (above elements) = omega arith in
    c.min.ensures ∙ (λ i. min (most i) (from i)) ∙ turned ∙ sym (first_unused_is size elements)
    ∙ sym (bound ∙ ap (λ r. bound_as r size elements) c.in-Function.is)
