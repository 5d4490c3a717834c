use Rattle.std.proofs.Common.{◌≡◌, ◌∙◌, sym, ap, refl}
use Rattle.sc_term.specs.Substitution.{clause_under}
use Rattle.sc_unify.specs.Bindings.{bindings, finished}
use Rattle.sc_unify.specs.Unifiers.{substitution}
use Rattle.sc_unify.proofs.Applying.{borrowed, within, beyond}
use Rattle.sc_unify.proofs.substitution.Subst.apply_limited.Goals as goal

pub returns-in-Some-clause-value : goal.returns-in-Some-clause-value
returns-in-Some-clause-value c =
    let same = borrowed (bindings c.as_slice-in-Some.result.now) c.self.inside.entries c.args.self.now c.self.invariant
    (ap bindings c.as_slice-in-Some.ensures.value ∙ c.in_ok-bound.ensures ∙ c.as_slice.ensures) (sym c.self.view_is) in
    c.in_ok-write_clause-in-Some.ensures ∙ ap (λ s. clause_under s c.args.c.now) same

pub returns-in-Some-clause-limits : goal.returns-in-Some-clause-limits
returns-in-Some-clause-limits c =
    let same = borrowed (bindings c.as_slice-2.result.now) c.self.inside.entries c.args.self.now c.self.invariant
    (ap bindings c.as_slice-2.ensures.value ∙ c.in_ok-bound.ensures ∙ c.as_slice.ensures) (sym c.self.view_is) in
    let is = within (finished (bindings c.as_slice-2.result.now)) (substitution c.args.self.now) c.args.c.now c.as_slice-3.result.now same c.as_slice-3.ensures c.in-Some.field-0 c.in-Some.ensures in
    (λ e. is, λ w. refl)

pub returns-clause-limits : goal.returns-clause-limits
returns-clause-limits c =
    let same = borrowed (bindings c.as_slice-2.result.now) c.self.inside.entries c.args.self.now c.self.invariant
    (ap bindings c.as_slice-2.ensures.value ∙ c.in_ok-bound.ensures ∙ c.as_slice.ensures) (sym c.self.view_is) in
    let not = beyond (finished (bindings c.as_slice-2.result.now)) (substitution c.args.self.now) c.args.c.now c.as_slice-3.result.now same c.as_slice-3.ensures c.in-None.ensures in
    (λ e. cc, λ is. absurd (not is))
