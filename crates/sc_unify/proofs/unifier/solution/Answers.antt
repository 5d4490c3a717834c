use Rattle.std.proofs.Common.{◌≡◌, ◌∙◌, sym, ap, subst, MatchOption}
use Rattle.sc_unify.specs.Bindings.{bindings, written}
use Rattle.sc_unify.specs.Equations.{equations, HasNoSolution, IsSolution, IsMostGeneralSolution}
use Rattle.sc_unify.specs.Unifiers.{substitution}
use Rattle.sc_unify.proofs.Unifiers.{most_general}
use Rattle.sc_unify.proofs.unifier.solution.Goals as goal

pub returns-in_ok-of-in-Some : goal.returns-in_ok-of-in-Some
returns-in_ok-of-in-Some c =
    let es = equations c.args.todo.items in
    let is : IsSolution es (bindings c.in-Some.bound.items) =
    subst (λ o. MatchOption o (HasNoSolution es) (λ bs. IsSolution es (bindings bs.items))) c.in-Some.is c.in_ok-bound.ensures in
    let made = c.in_ok-of-in-Some.ensures ∙ ap (λ bs. written (bindings bs)) c.as_slice.ensures.value in
    subst (λ s. IsMostGeneralSolution es (substitution s)) (sym made) (most_general es (bindings c.in-Some.bound.items) is)
