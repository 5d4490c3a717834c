use Rattle.std.proofs.Common.{sym}
use Rattle.sc_keep.proofs.sweep.is_reducible.Goals as goal

pub returns : goal.returns
returns c = (λ e. (λ same. c.if-n-p.false (sym same), c.in_ok-has_redex.ensures.0 e), λ h. c.in_ok-has_redex.ensures.1 h.1)
