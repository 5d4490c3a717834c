use Rattle.std.proofs.Common.{◌∙◌, sym, inl, inr}
use Rattle.sc_hyper.proofs.ChoosingLaws.{opposed_not}
use Rattle.sc_hyper.proofs.choosing.next_choice.Goals as goal

pub returns-then-not-are_opposed : goal.returns-then-not-are_opposed
returns-then-not-are_opposed c = inr (inl (opposed_not c.args.l.now.positive c.args.next.now.literal.positive (sym c.are_opposed.ensures ∙ c.if-not-are_opposed.true)))
