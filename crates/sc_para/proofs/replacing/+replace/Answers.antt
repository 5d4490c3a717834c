use Rattle.std.proofs.Common.{◌≡◌, ◌∙◌, sym, ap, subst, refl, ℕ, List, ◌==◌, length, Option, true, false}
use Rattle.sc_steps.proofs.EqualityChecks.{none_of_length}
use Rattle.std.specs.Prelude.{MatchOption}
use Rattle.sc_term.specs.declared.Term.{Term}
use Rattle.sc_term.specs.Path.{IsReplaced}
use Rattle.sc_steps.specs.Replacement.{IsTermReplaced}
use Rattle.sc_para.proofs.ReplacingLaws.{not_replaced, not_within}
use Rattle.sc_para.proofs.replacing.+replace.Goals as goal

pub replaced-returns-in-None : goal.replaced-returns-in-None
replaced-returns-in-None t c =
    let never = subst (λ (o : Option Term). MatchOption o ((s new : Term) → ¬ IsTermReplaced c.in-Some-argument.old.now c.in-Some.rest.now s c.args.t.now new)
    (λ new. (s : Term) × IsTermReplaced c.in-Some-argument.old.now c.in-Some.rest.now s c.args.t.now new)) c.in-None.is c.in_ok-changed.ensures in
    not_replaced c.args.args.now c.args.path.now c.in-Some.n.now c.in-Some.rest.now c.in-Some-argument.old.now c.args.t.now c.in-Some.ensures.cases.0 c.in-Some-argument.ensures.value never

pub replaced_within-returns-then-is_empty : goal.replaced_within-returns-then-is_empty
replaced_within-returns-then-is_empty t c =
    let none = none_of_length c.args.path.now (sym c.is_empty.ensures ∙ c.if-is_empty.true) in
    (c.args.old.now, subst (λ (p : List ℕ). IsTermReplaced c.args.old.now p c.args.old.now c.args.t.now c.in_ok-copy_term.field-0) (sym none) (refl, c.in_ok-copy_term.ensures))

pub replaced_within-returns-in-None : goal.replaced_within-returns-in-None
replaced_within-returns-in-None t c =
    let never = subst (λ (o : Option (List Term)). MatchOption o ((s : Term) (new : List Term) → ¬ IsReplaced c.as_slice.result.now c.args.path.now s c.args.t.now new)
    (λ new. (s : Term) × IsReplaced c.as_slice.result.now c.args.path.now s c.args.t.now new)) c.in-None.is c.in_ok-changed-in-App.ensures in
    not_within c.args.old.now c.in-App.f c.in-App.inner c.args.path.now c.args.t.now c.in-App.is (λ e. let bad : false ≡ true = sym c.if-is_empty.false ∙ c.is_empty.ensures ∙ ap (λ (p : List ℕ). length p == 0) e in cc)
    (subst (λ (ts : List Term). (s : Term) (new : List Term) → ¬ IsReplaced ts c.args.path.now s c.args.t.now new) c.as_slice.ensures never)
