use Rattle.std.proofs.Common.{◌≡◌, sym, ap, subst, true, false, [], ◌∷◌}
use Rattle.sc_unify.specs.Equations.{equations, Solves}
use Rattle.sc_unify.specs.Unifiers.{EquatesAtoms}
use Rattle.sc_unify.proofs.Unifiers.{answered, one_pair}
use Rattle.sc_unify.proofs.unifier.unify.Goals as goal

pub returns-then-not-branch : goal.returns-then-not-branch
returns-then-not-branch c = λ u.
    let told = subst (λ q. EquatesAtoms q c.args.a.now c.args.b.now (equations c.new-todo.result.items) (equations c.equate_atoms.new.todo.items)) c.if-not-branch.true c.in_ok-equate_atoms.ensures in
    told u.0 ((one_pair u.0 c.args.a.now c.args.b.now).0 u.1)

pub returns : goal.returns
returns c =
    let es = equations c.equate_atoms.new.todo.items in
    let told = subst (λ q. EquatesAtoms q c.args.a.now c.args.b.now (equations c.new-todo.result.items) es) c.if-not-branch.false c.in_ok-equate_atoms.ensures in
    answered c.solution.result (record { left = c.args.a.now; right = c.args.b.now } ∷ []) es
    (λ u.
    let pair = one_pair u c.args.a.now c.args.b.now in
    (λ h. (told u).1 (subst (Solves u) (sym (ap equations c.new-todo.ensures.items)) tt, pair.0 h), λ s. pair.1 ((told u).0 s).1))
    c.solution.ensures
