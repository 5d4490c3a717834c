use Rattle.sc_keep.proofs.sweep.is_subsumed.Goals as goal

pub returns : goal.returns
returns c = (λ e. (c.if-p-n.false, (c.in_ok-subsumes.ensures.0 e)), λ h. c.in_ok-subsumes.ensures.1 h.1)
