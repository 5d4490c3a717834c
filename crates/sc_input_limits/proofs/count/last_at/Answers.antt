use Rattle.std.proofs.Common.{◌∙◌, sym, ap, ℕ}
use Rattle.std.specs.Prelude.{Some}
use Rattle.sc_input_limits.proofs.Looks.{last_at_last}
use Rattle.sc_input_limits.proofs.count.last_at.Goals as goal

pub returns-in-len1-up : goal.returns-in-len1-up
returns-in-len1-up c = ap (λ (n : ℕ). Some n) c.at_of.ensures ∙ sym (last_at_last c.args.tokens.now c.last-item.result c.in-len1-up.len_at_least c.last-item.is)
