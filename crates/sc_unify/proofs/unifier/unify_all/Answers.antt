use Rattle.std.proofs.Common.{◌≡◌, sym, ap, subst, MatchOption}
use Rattle.sc_unify.specs.Equations.{equations}
use Rattle.sc_unify.specs.Unifiers.{EquatesPairs, HasNoUnifier}
use Rattle.sc_unify.proofs.Unifiers.{answered}
use Rattle.sc_unify.proofs.unifier.unify_all.Goals as goal

pub returns-in-Some : goal.returns-in-Some
returns-in-Some c =
    let told : EquatesPairs c.as_slice.result.now (equations c.in-Some.todo.items) =
    subst (λ o. MatchOption o (HasNoUnifier c.as_slice.result.now) (λ es. EquatesPairs c.as_slice.result.now (equations es.items))) c.in-Some.is c.in_ok-todo.ensures in
    answered c.solution.result c.args.pairs.now (equations c.in-Some.todo.items) (subst (λ ps. EquatesPairs ps (equations c.in-Some.todo.items)) c.as_slice.ensures told) c.solution.ensures
