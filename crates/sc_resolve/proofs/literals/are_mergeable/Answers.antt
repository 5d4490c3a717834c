use Rattle.std.proofs.Common.{sym, ◌∙◌}
use Rattle.sc_resolve.proofs.LiteralLaws.{told, mergeable, not_mergeable}
use Rattle.sc_resolve.proofs.literals.are_mergeable.Goals as goal

pub returns-then-not-may_merge : goal.returns-then-not-may_merge
returns-then-not-may_merge c = not_mergeable c.args.l.now c.args.m.now (sym c.may_merge.ensures ∙ c.if-not-may_merge.true)

pub returns : goal.returns
returns c =
    mergeable c.args.l.now c.args.m.now c.is_some.result (sym c.may_merge.ensures ∙ c.if-not-may_merge.false) (told c.in_ok-unify.field-0 c.args.l.now c.args.m.now c.is_some.result c.in_ok-unify.ensures c.is_some.ensures)
