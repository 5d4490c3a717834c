use Rattle.std.proofs.Common.{sym, ◌∙◌}
use Rattle.sc_resolve.proofs.LiteralLaws.{told, resolvable, not_resolvable}
use Rattle.sc_resolve.proofs.literals.are_resolvable.Goals as goal

pub returns-then-not-may_resolve : goal.returns-then-not-may_resolve
returns-then-not-may_resolve c = not_resolvable c.args.l.now c.args.m.now (sym c.may_resolve.ensures ∙ c.if-not-may_resolve.true)

pub returns : goal.returns
returns c =
    resolvable c.args.l.now c.args.m.now c.is_some.result (sym c.may_resolve.ensures ∙ c.if-not-may_resolve.false) (told c.in_ok-unify.field-0 c.args.l.now c.args.m.now c.is_some.result c.in_ok-unify.ensures c.is_some.ensures)
