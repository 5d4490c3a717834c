use Rattle.std.proofs.Common.{◌≡◌, ◌∙◌, sym, ap, ◌++◌, List}
use Rattle.sc_term.specs.declared.Term.{Term}
use Rattle.sc_term.proofs.TermLaws.{same_symbol}
use Rattle.sc_unify.specs.Equations.{Equal, equations, equated}
use Rattle.sc_unify.proofs.Unifiers.{differs, equated-atoms}
use Rattle.sc_unify.proofs.unifier.equate_atoms.Goals as goal

pub returns : goal.returns
returns c = λ u.
    let grown = c.in_ok-equate.ensures ∙ (λ i. equations c.args.todo.now.items ++ equated (c.as_slice.ensures i) (c.as_slice-2.ensures i)) in
    equated-atoms u c.args.a.now c.args.b.now (equations c.args.todo.now.items) (equations c.equate.new.todo.items)
    (same_symbol c.args.a.now.pred c.args.b.now.pred (sym (differs c.args.a.now.pred.0 c.args.b.now.pred.0 (sym c.if-ne.ensures))))
    (sym c.len.ensures ∙ c.if-len.false ∙ c.len-else-ne.ensures) grown
