use Rattle.std.proofs.Common.{◌∙◌, sym, ap, length}
use Rattle.sc_input_limits.proofs.Numbers.{last_digits_last}
use Rattle.sc_input_limits.proofs.range.last_digits.Goals as goal

pub returns-in-len1-up : goal.returns-in-len1-up
returns-in-len1-up c = c.digits_of.ensures ∙ sym (ap length (last_digits_last c.args.tokens.now c.last-item.result c.in-len1-up.len_at_least c.last-item.is))
