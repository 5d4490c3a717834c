use Rattle.std.proofs.Common.{◌≡◌, ◌∙◌, sym, ap, subst}
use Rattle.sc_unify.specs.Bindings.{bindings, AreSolved}
use Rattle.sc_unify.proofs.Applying.{borrowed}
use Rattle.sc_unify.proofs.substitution.Subst.bindings.Goals as goal

pub returns-clause-solved : goal.returns-clause-solved
returns-clause-solved c = subst AreSolved (sym (c.in_ok-bound.ensures ∙ c.as_slice.ensures)) c.self.invariant

pub returns-clause-same : goal.returns-clause-same
returns-clause-same c =
    borrowed (bindings c.in_ok-bound.bound.items) c.self.inside.entries c.args.self.now c.self.invariant (c.in_ok-bound.ensures ∙ c.as_slice.ensures) (sym c.self.view_is)
