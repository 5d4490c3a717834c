use Rattle.std.proofs.Common.{◌≡◌, ◌∙◌, sym, ap, subst, ◌≤◌, true, false, Bool, length, take, arith}
use Rattle.std.proofs.lemmas.List.{take_all}
use Rattle.sc_unify.specs.Equations.{equations}
use Rattle.sc_unify.specs.Unifiers.{EquatesAtoms, EquatesPairs}
use Rattle.sc_unify.proofs.Unifiers.{unifier-more, unified-at}
use Rattle.sc_unify.proofs.unifier.equate_pairs.Goals as goal

pub returns-then-not-branch : goal.returns-then-not-branch
returns-then-not-branch c = λ u h.
    let item = c.pair-item.result in
    let told = subst (λ q. EquatesAtoms q item.left item.right (equations c.loop-pair.todo.items) (equations c.equate_atoms.new.todo.items)) c.if-not-branch.true c.in_ok-equate_atoms.ensures in
    told u (unified-at u c.args.pairs.now c.loop-pair.pair-index item c.loop-pair-test.true c.pair-item.is h)

pub loop-pair-preserved : goal.loop-pair-preserved
loop-pair-preserved c = λ u.
    let item = c.pair-item.result in
    let more = unifier-more u c.args.pairs.now c.loop-pair.pair-index item c.loop-pair-test.true c.pair-item.is in
    let told = subst (λ q. EquatesAtoms q item.left item.right (equations c.loop-pair.todo.items) (equations c.equate_atoms.new.todo.items)) c.if-not-branch.false c.in_ok-equate_atoms.ensures u in
    let before = c.loop-pair.invariant u in (
      λ h. let both = more.0 h in told.1 (before.0 both.0, both.1),
      λ s. let both = told.0 s in more.1 (before.1 both.0, both.1),
    )

pub returns : goal.returns
returns c = subst (λ pairs. EquatesPairs pairs (equations c.loop-pair.todo.items)) (take_all c.loop-pair.pair-index c.args.pairs.now c.loop-pair-test.false) c.loop-pair.invariant
