use Rattle.std.proofs.Common.{sym, ◌∙◌}
use Rattle.sc_shelf.proofs.Steps.{same_stores}
use Rattle.sc_shelf.proofs.shelf.new_shelf.Goals as goal

pub new-requires-clause-alike : goal.new-requires-clause-alike
new-requires-clause-alike g c =
    let a = c.empty_store-first.ensures in
    let b = c.empty_store-second.ensures in
    same_stores c.empty_store-first.result c.empty_store-second.result (a.2 ∙ sym b.2) (a.0 ∙ sym b.0) (a.1 ∙ sym b.1)
