use Rattle.std.proofs.Common.{◌≡◌, ◌∙◌, sym, ap, refl, inr, nat_eq}
use Rattle.std.specs.List.{list_any}
use Rattle.sc_unify.proofs.occurs.enter.Goals as goal

pub returns-then-contains : goal.returns-then-contains
returns-then-contains c = (refl, inr (sym (ap (list_any (λ m. nat_eq m c.args.variable)) c.deref.ensures.value) ∙ sym c.if-contains.ensures.value))
