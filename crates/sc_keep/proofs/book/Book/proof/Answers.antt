use Rattle.std.proofs.Common.{◌∙◌, ap}
use Rattle.sc_keep.specs.State.{State}
use Rattle.sc_keep.proofs.book.Book.proof.Goals as goal

pub splice-requires-clause-derivations : goal.splice-requires-clause-derivations
splice-requires-clause-derivations c = c.self.invariant.derived (ap (λ (s : State). s.whole) c.self.view_is ∙ c.requires.whole)
