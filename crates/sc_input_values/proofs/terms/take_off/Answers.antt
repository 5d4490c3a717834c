use Rattle.std.proofs.Common.{◌∙◌, ap, reverse, arith}
use Rattle.sc_input_values.proofs.StackLaws.{off_top}
use Rattle.sc_input_values.proofs.terms.take_off.Goals as goal

pub returns-clause-taken : goal.returns-clause-taken
returns-clause-taken c =
    c.from_vec.ensures ∙ c.reverse.ensures.items ∙ ap reverse c.in_ok-terms.ensures.tail ∙ (off_top c.args.stack.now.items c.args.count _ (omega arith)).0

pub returns-clause-left : goal.returns-clause-left
returns-clause-left c = ap reverse c.in_ok-terms.ensures.items ∙ (off_top c.args.stack.now.items c.args.count _ (omega arith)).1
