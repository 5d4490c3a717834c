use Rattle.std.proofs.Common.{◌∙◌, sym, ap, ◌++◌, map, arith}
use Rattle.sc_term.specs.Term.{joined}
use Rattle.sc_index.specs.Flat.{term_cells}
use Rattle.sc_index.proofs.FlatLaws.{symbol_added}
use Rattle.sc_index.proofs.flat.+flatten.Goals as goal

pub add_term-returns-in_ok-add_terms-in-App : goal.add_term-returns-in_ok-add_terms-in-App
add_term-returns-in_ok-add_terms-in-App t c =
    let cells = c.args.cells.now.items in
    let whole = c.in_ok-add_terms-in-App.ensures ∙ (λ i. c.in_ok-push-in-App.ensures.items i ++ joined (map term_cells (c.as_slice.ensures i))) in
    symbol_added cells c.add_terms.new.cells.items c.len-start.result c.len-in-App.result c.in-App.f c.len.result c.in-App.args whole (omega (arith, c.len-start.ensures, c.args.cells.now.ok)) (omega (arith, c.len-in-App.ensures, c.add_terms.new.cells.ok)) c.len.ensures
    ∙ ap (λ row. cells ++ row) (ap term_cells (sym c.in-App.is))
