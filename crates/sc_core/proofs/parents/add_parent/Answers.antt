use Rattle.std.proofs.Common.{◌≡◌, ◌∙◌, sym, ap, subst, ◌++◌, ◌∷◌, [], List, Some, true≢false}
use Rattle.std.specs.List.{Any}
use Rattle.sc_term.specs.declared.Clause.{Clause}
use Rattle.sc_term.specs.declared.Numbered.{Numbered}
use Rattle.sc_core_rules.specs.Book.{numbered_clauses}
use Rattle.sc_core.specs.Parents.{AreParents}
use Rattle.sc_core.proofs.ParentLaws.{known_parent, new_parent}
use Rattle.sc_core.proofs.parents.add_parent.Goals as goal

pub returns-then-is_there : goal.returns-then-is_there
returns-then-is_there c before are =
    known_parent (numbered_clauses c.args.book.now.problem c.args.book.now.book) before c.args.parents.now c.args.n are
    (subst (λ (ps : List Numbered). Any (λ (p : Numbered). p.number ≡ c.args.n) ps) c.as_slice.ensures (c.is_there.ensures.0 c.if-is_there.true))

pub returns : goal.returns
returns c before are =
    let clauses = numbered_clauses c.args.book.now.problem c.args.book.now.book in
    subst (AreParents clauses (before ++ c.args.n ∷ [])) (sym c.in_ok-push.ensures.ok)
    (new_parent clauses before c.args.parents.now c.args.n are c.in_ok-clause.clause
    (λ h. true≢false (sym (c.is_there.ensures.1 (subst (λ (ps : List Numbered). Any (λ (p : Numbered). p.number ≡ c.args.n) ps) (sym c.as_slice.ensures) h)) ∙ c.if-is_there.false))
    (c.clause.ensures ∙ ap (λ (x : Clause). Some x) (sym c.in_ok-clause.ensures)))
